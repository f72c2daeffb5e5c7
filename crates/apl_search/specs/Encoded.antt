-- Digits of numbers by bases.
use Rattle.std.specs.Prelude.{ℕ, zero, ℤ, pos, neg_ℤ, ◌≤ℤ◌, ◌^◌, List, [], ◌∷◌, ◌++◌, map, Result}
use Rattle.apl_faults.specs.declared.fault.Fault.{Fault}
use Rattle.apl_arrays.specs.Cells.{Arr, Numbers}
use Rattle.apl_arrays.specs.Checks.{limited, vector_rank, numbers_of}
use Rattle.apl_arrays.specs.Results.{and_then, ok_map, all_ok}
use Rattle.apl_scalar.specs.Functions.{in_range, residue, floor_div}

-- what is left of a number less its digit by a base: nothing by 0, else how often the base goes into it, rounded down
abbrev pub left_of : ℤ → ℤ → ℤ
left_of (pos zero) r = pos 0
left_of base r = floor_div r base

-- what all these bases leave of a number, from the last on
abbrev pub left_by : List ℤ → ℤ → ℤ
left_by [] r = r
left_by (base ∷ bases) r = left_of base (left_by bases r)

-- the digits of all numbers by each base, of what the bases behind it leave
abbrev pub digits_by : List ℤ → List ℤ → List ℤ
digits_by [] rs = []
digits_by (base ∷ bases) rs = map (λ r. residue base (left_by bases r)) rs ++ digits_by bases rs

-- the same in a shape; LIMIT where a digit is out of range
abbrev pub digits_in : List ℤ → List ℤ → List ℕ → Result Arr Fault
digits_in bases rs shape = ok_map (λ digits. record { shape = shape; items = Numbers digits }) (all_ok in_range (digits_by bases rs))

-- RANK, then DOMAIN for characters; the bases and the numbers
abbrev pub bases_and_numbers : Arr → Arr → Result (List ℤ × List ℤ) Fault
bases_and_numbers a b = and_then (vector_rank a) (λ u. and_then (numbers_of a.items) (λ bases. ok_map (λ rs. (bases, rs)) (numbers_of b.items)))

-- a first axis for the bases, if they have one, or LIMIT
abbrev pub encoded_shape : Arr → Arr → Result (List ℕ) Fault
encoded_shape a b = limited (a.shape ++ b.shape)

-- encoding: the result's limits before its digits
abbrev pub encode : Arr → Arr → Result Arr Fault
encode a b = and_then (bases_and_numbers a b) (λ p. and_then (encoded_shape a b) (digits_in p.0 p.1))

-- a number as large as one of 64 bits, or its opposite
pub record IsNear (r : ℤ) : Type 0 where
  pub low : neg_ℤ (pos (2 ^ 63)) ≤ℤ r
  pub high : r ≤ℤ pos (2 ^ 63)
