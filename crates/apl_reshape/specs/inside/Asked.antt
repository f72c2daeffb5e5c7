-- What is asked of an axis where a part of an array is taken, and whether there is so much.
-- By it one loop takes the part that `Take` defines of `↑` and `↓`.
use Rattle.std.specs.Prelude.{ℕ, ℤ, ◌-◌, ◌&&◌, nat_le, unsigned_abs, Bool, true, false, if◌then◌else◌, List, [], ◌∷◌}
use Rattle.std.specs.Int.{is_negative}
use Rattle.apl_reshape.specs.declared.lengths.Asked.{Asked}
use Rattle.apl_reshape.specs.declared.lengths.Asked.TheVariants.{Left, StartLeft, StartTaken}
use Rattle.apl_reshape.specs.Take.{left_length, left_from}

-- an array of these lengths has so many elements along each axis
abbrev pub has_enough : List ℕ → List ℕ → Bool
has_enough [] [] = true
has_enough [] (m ∷ ms) = false
has_enough (n ∷ ns) [] = false
has_enough (n ∷ ns) (m ∷ ms) = nat_le m n && has_enough ns ms

-- how many of an axis come before those that are taken
abbrev pub taken_start : ℕ → ℤ → ℕ
taken_start n z = if is_negative z then n - unsigned_abs z else 0

-- what is asked, by the length of an axis and its number
abbrev pub asked_of : Asked → ℕ → ℤ → ℕ
asked_of Left n z = left_length n z
asked_of StartLeft n z = left_from n z
asked_of StartTaken n z = taken_start n z
