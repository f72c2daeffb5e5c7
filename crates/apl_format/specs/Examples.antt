-- Arrays of the examples.
use Rattle.std.specs.Prelude.{ℕ, ℤ, pos, List, [], ◌∷◌}
use Rattle.apl_arrays.specs.Cells.{Arr, Numbers, Characters}

-- numbers in a shape
abbrev pub of_numbers : List ℕ → List ℤ → Arr
of_numbers s zs = record { shape = s; items = Numbers zs }

-- characters in a shape
abbrev pub of_characters : List ℕ → List ℕ → Arr
of_characters s cs = record { shape = s; items = Characters cs }

-- 1 20 300 4
abbrev pub four_numbers : List ℤ
four_numbers = pos 1 ∷ pos 20 ∷ pos 300 ∷ pos 4 ∷ []
