-- Values of digits by bases.
use Rattle.std.specs.Prelude.{ℕ, ℤ, pos, ◌+ℤ◌, ◌*ℤ◌, ◌==◌, cond, List, [], ◌∷◌, length, map, slice_index_or, Result, Ok, Err}
use Rattle.std.specs.List.{range_with_len}
use Rattle.apl_faults.specs.declared.fault.Fault.{Fault}
use Rattle.apl_faults.specs.declared.fault.Fault.TheVariants.{Length}
use Rattle.apl_arrays.specs.Index.{indices, position_in}
use Rattle.apl_arrays.specs.Cells.{Arr, Numbers}
use Rattle.apl_arrays.specs.Checks.{vector_rank, numbers_of, count_of}
use Rattle.apl_arrays.specs.Results.{and_then, ok_map, all_ok}
use Rattle.apl_scalar.specs.Functions.{in_range}

-- the length of the first axis; a scalar counts as one element
abbrev pub first_length : List ℕ → ℕ
first_length [] = 1
first_length (n ∷ ns) = n

-- the shape without the first axis
abbrev pub shape_behind : List ℕ → List ℕ
shape_behind [] = []
shape_behind (n ∷ ns) = ns

-- how many there are of each, where there are m of one and n of the other: either extends from 1
abbrev pub joined_count : ℕ → ℕ → Result ℕ Fault
joined_count m n = cond (m == 1) (Ok n) (cond (n == 1) (Ok m) (cond (m == n) (Ok n) (Err Length)))

-- the place for k among n, of which a single one serves at each
abbrev pub served : ℕ → ℕ → ℕ
served n k = cond (n == 1) 0 k

-- from v on, the value so far times each base, plus its digit: each such value is in range, or LIMIT
abbrev pub valued : ℤ → List (ℤ × ℤ) → Result ℤ Fault
valued v [] = Ok v
valued v (p ∷ ps) = and_then (in_range (v *ℤ p.0 +ℤ p.1)) (λ w. valued w ps)

-- the k-th base, and the k-th digit at an index list behind the first axis
abbrev pub base_and_digit : List ℤ → List ℕ → List ℤ → List ℕ → ℕ → ℤ × ℤ
base_and_digit bases shape digits i k = (
  slice_index_or bases (served (length bases) k) (pos 0),
  slice_index_or digits (position_in (first_length shape ∷ shape_behind shape) (served (first_length shape) k ∷ i)) (pos 0),
)

-- RANK, LENGTH, DOMAIN for characters; the bases, the digits, and how many there are for each value
abbrev pub bases_and_digits : Arr → Arr → Result (List ℤ × List ℤ × ℕ) Fault
bases_and_digits a b =
    and_then (vector_rank a) (λ u.
    and_then (joined_count (count_of a) (first_length b.shape)) (λ n.
    and_then (numbers_of a.items) (λ bases. ok_map (λ digits. (bases, digits, n)) (numbers_of b.items))))

-- decoding: the values along the first axis, which goes
abbrev pub decode : Arr → Arr → Result Arr Fault
decode a b =
    and_then (bases_and_digits a b) (λ p.
    ok_map (λ values. record { shape = shape_behind b.shape; items = Numbers values })
    (all_ok (λ i. valued (pos 0) (map (base_and_digit p.0 b.shape p.1 i) (range_with_len 0 p.2))) (indices (shape_behind b.shape))))
