-- The steps of axes that become one: axis m becomes axis axes[m].
-- A view joined so shows the same cells as `turned` of `Views`, whose steps these are.
use Rattle.std.specs.Prelude.{ℕ, zero, suc, ◌+◌, ◌-◌, ◌*◌, ◌==◌, cond, List, [], ◌∷◌, map}
use Rattle.std.specs.List.{range_with_len}
use Rattle.apl_arrays.specs.declared.axis.Axis.{Axis}
use Rattle.apl_arrays.specs.Strides.{lengths}
use Rattle.apl_arrays.specs.Views.{rank_of, joined, least}

-- the steps up of what becomes axis k
abbrev pub ups : ℕ → List ℕ → List Axis → ℕ
ups k [] xs = 0
ups k (m ∷ ms) [] = 0
ups k (m ∷ ms) (x ∷ xs) = cond (m == k) (x.up + ups k ms xs) (ups k ms xs)

-- its steps down
abbrev pub downs : ℕ → List ℕ → List Axis → ℕ
downs k [] xs = 0
downs k (m ∷ ms) [] = 0
downs k (m ∷ ms) (x ∷ xs) = cond (m == k) (x.down + downs k ms xs) (downs k ms xs)

-- how far its first element lies further on, where it is n long
abbrev pub skips : ℕ → ℕ → List ℕ → List Axis → ℕ
skips k n [] xs = 0
skips k n (m ∷ ms) [] = 0
skips k n (m ∷ ms) (x ∷ xs) = cond (m == k) (x.down * (x.length - n) + skips k n ms xs) (skips k n ms xs)

-- how long it is
abbrev pub joined_length : List ℕ → List Axis → ℕ → ℕ
joined_length ms xs k = least (joined k ms (lengths xs))

abbrev pub joined_axis : List ℕ → List Axis → ℕ → Axis
joined_axis ms xs k = record { length = joined_length ms xs k; up = ups k ms xs; down = downs k ms xs }

abbrev pub joined_skip : List ℕ → List Axis → ℕ → ℕ
joined_skip ms xs k = skips k (joined_length ms xs k) ms xs

-- all axes
abbrev pub turned_axes : List ℕ → List Axis → List Axis
turned_axes ms xs = map (joined_axis ms xs) (range_with_len 0 (rank_of ms))

-- h of each of n numbers from k on, as a sum
abbrev pub sum_of : (ℕ → ℕ) → ℕ → ℕ → ℕ
sum_of h k zero = 0
sum_of h k (suc n) = h k + sum_of h (k + 1) n

-- how far the first element of all lies further on
abbrev pub turned_skip : List ℕ → List Axis → ℕ
turned_skip ms xs = sum_of (joined_skip ms xs) 0 (rank_of ms)
