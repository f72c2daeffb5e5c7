-- Digits in rows, one for each base, in which the digits of a number stand below each other at its place.
-- All rows in turn are the digits of `Encoded`.
use Rattle.std.specs.Prelude.{ℕ, ℤ, pos, ◌+◌, ◌*◌, ◌<◌, ◌≤◌, ◌≡◌, List, length, drop, slice_index_or, Ok, Err}
use Rattle.apl_faults.specs.declared.fault.Fault.{Fault}
use Rattle.apl_scalar.specs.Functions.{in_range, residue}
use Rattle.apl_search.specs.Encoded.{left_by}

-- the digit of a number by the base of a row, of what the bases behind it leave
abbrev pub digit_in_row : List ℤ → ℤ → ℕ → ℤ
digit_in_row bases r row = residue (slice_index_or bases row (pos 0)) (left_by (drop (row + 1) bases) r)

-- the digits of the number at a place fit 64 bits, and stand in all rows from one on
abbrev pub HasDigits : List ℤ → List ℤ → ℕ → ℕ → List ℤ → Type 0
HasDigits bases rs place from rows =
    (row : ℕ) → from ≤ row → row < length bases → in_range (digit_in_row bases (slice_index_or rs place (pos 0)) row) ≡ Ok (slice_index_or rows (row * length rs + place) (pos 0))

-- rows of so many digits hold what they held, before a place in each
abbrev pub KeepsBefore : ℕ → ℕ → List ℤ → List ℤ → Type 0
KeepsBefore width place old new = (row i : ℕ) → i < place → slice_index_or new (row * width + i) (pos 0) ≡ slice_index_or old (row * width + i) (pos 0)

-- a digit of the number at a place doesn't fit 64 bits
abbrev pub LacksDigit : List ℤ → List ℤ → ℕ → Fault → Type 0
LacksDigit bases rs place fault = (row : ℕ) × (row < length bases) × (in_range (digit_in_row bases (slice_index_or rs place (pos 0)) row) ≡ Err fault)
