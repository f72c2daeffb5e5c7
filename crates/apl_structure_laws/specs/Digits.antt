-- Digits by bases, and their value.
use Rattle.std.specs.Prelude.{◌≡◌, ◌<ℤ◌, ◌*ℤ◌, ℕ, ℤ, pos, true, List, [], ◌∷◌, map, length, Ok}
use Rattle.std.specs.List.{All}
use Rattle.apl_arrays.specs.declared.axis_choice.Along.TheVariants.{Last}
use Rattle.apl_arrays.specs.Cells.{Arr, Numbers, IsArray}
use Rattle.apl_arrays.specs.Checks.{numbers_of}
use Rattle.apl_arrays.specs.Results.{and_then}
use Rattle.apl_folds.specs.Folds.{reduction}
use Rattle.apl_scalar.specs.declared.function.Dyadic.TheVariants.{Residue, Times}
use Rattle.apl_scalar.specs.Extension.{dyadic}
use Rattle.apl_scalar.specs.Functions.{is_in_range, residue}
use Rattle.apl_search.specs.Decoded.{decode}
use Rattle.apl_search.specs.Encoded.{encode}

-- the product of bases
abbrev pub product : List ℤ → ℤ
product [] = pos 1
product (base ∷ bases) = base *ℤ product bases

-- a vector of positive bases, whose product fits 64 bits
pub record AreBases (a : Arr) (bases : List ℤ) : Type 0 where
  pub array : IsArray a.shape a.items
  pub vector : length a.shape ≡ 1
  pub bases_are : numbers_of a.items ≡ Ok bases
  pub positive : All (λ base. pos 0 <ℤ base) bases
  pub fits : is_in_range (product bases) ≡ true

-- what is left of each number by another one
abbrev pub left_of_each : ℤ → Arr → List ℤ → Arr
left_of_each x b numbers = record { shape = b.shape; items = Numbers (map (residue x) numbers) }

-- ---- what is promised

-- the value, by bases, of B's digits by these bases is what their product leaves of B
abbrev pub DecodesBack : Type 0
DecodesBack = (a b c : Arr) (bases numbers : List ℤ) → AreBases a bases → IsArray b.shape b.items → numbers_of b.items ≡ Ok numbers
    → encode a b ≡ Ok c → decode a c ≡ Ok (left_of_each (product bases) b numbers)

-- which is (×/A)|B
abbrev pub IsTheirResidue : Type 0
IsTheirResidue = (a b : Arr) (bases numbers : List ℤ) (origin : ℕ) → AreBases a bases → IsArray b.shape b.items → numbers_of b.items ≡ Ok numbers
    → and_then (reduction Times Last a origin) (λ x. dyadic Residue x b) ≡ Ok (left_of_each (product bases) b numbers)
