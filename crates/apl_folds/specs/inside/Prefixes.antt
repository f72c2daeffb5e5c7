-- Scans of numbers in row-major order, by their places.
-- All prefixes together are the scan of `Scans`, which folds each prefix anew.
use Rattle.std.specs.Prelude.{◌≡◌, ℕ, ℤ, pos, ◌+◌, ◌-◌, ◌*◌, ◌/◌, ◌%◌, ◌^◌, ◌<◌, ◌≤◌}
use Rattle.std.specs.Prelude.{List, [], ◌∷◌, ◌++◌, length, slice_index_or, Result, Ok}
use Rattle.std.specs.List.{range_with_len}
use Rattle.apl_faults.specs.declared.fault.Fault.{Fault}
use Rattle.apl_arrays.specs.declared.axis.Axis.{Axis}
use Rattle.apl_arrays.specs.Results.{all_ok}
use Rattle.apl_folds.specs.Lines.{fold_by, line_of, line_fold}

-- the numbers are whole lines along an axis
pub record AreWhole (zs : List ℤ) (axis : Axis) : Type 0 where
  pub long : 0 < axis.length
  pub apart : 0 < axis.up
  pub forward : axis.down ≡ 0
  pub few : length zs < 2 ^ 61
  pub blocks : ℕ
  pub size : length zs ≡ blocks * (axis.length * axis.up)

-- the index along an axis of the number at a place
abbrev pub index_along : Axis → ℕ → ℕ
index_along axis q = (q / axis.up) % axis.length

-- the numbers along an axis before the one at a place
abbrev pub before : List ℤ → Axis → ℕ → List ℤ
before zs axis q = line_of (pos 0) zs axis (q - index_along axis q * axis.up) (index_along axis q)

-- the fold of the numbers along an axis up to the one at a place
abbrev pub prefix_fold : (ℤ → ℤ → Result ℤ Fault) → List ℤ → Axis → ℕ → Result ℤ Fault
prefix_fold f zs axis q = line_fold f zs axis (q - index_along axis q * axis.up) (index_along axis q + 1)

-- the same for all places, or the first fault in their order
abbrev pub prefix_folds : (ℤ → ℤ → Result ℤ Fault) → List ℤ → Axis → Result (List ℤ) Fault
prefix_folds f zs axis = all_ok (prefix_fold f zs axis) (range_with_len 0 (length zs))

-- so many of them stand first here
abbrev pub ArePrefixes : (ℤ → ℤ → Result ℤ Fault) → List ℤ → Axis → ℕ → List ℤ → Type 0
ArePrefixes f zs axis count prefixes = (q : ℕ) → q < count → prefix_fold f zs axis q ≡ Ok (slice_index_or prefixes q (pos 0))

-- there is room for each prefix
abbrev pub AllHaveRoom : (List ℤ → Type 0) → List ℤ → Axis → Type 0
AllHaveRoom room zs axis = (q : ℕ) → q < length zs → room (before zs axis q ++ slice_index_or zs q (pos 0) ∷ [])

-- the places from one to another are not the first of their lines
abbrev pub AreLater : Axis → ℕ → ℕ → Type 0
AreLater axis from till = (q : ℕ) → from ≤ q → q < till → 0 < index_along axis q

-- a fold stays the same with a number more
abbrev pub Stays : (ℤ → ℤ → Result ℤ Fault) → ℤ → ℤ → Type 0
Stays f fold z = (zs : List ℤ) → fold_by f zs ≡ Ok fold → fold_by f (zs ++ z ∷ []) ≡ Ok fold
