-- Axes in another order, and axes taken the other way or round.
use Rattle.std.specs.Prelude.{ℕ, ℤ, pos, negsuc, ◌+◌, ◌-◌, ◌==◌, ◌+ℤ◌, ◌&&◌, ◌||◌, nat_le, nat_lt, unsigned_abs}
use Rattle.std.specs.Prelude.{Bool, if◌then◌else◌, List, map, length, slice_index_or, Option, None, Some, Result, Ok, Err}
use Rattle.std.specs.Int.{int_rem_euclid}
use Rattle.std.specs.List.{list_all, list_any, range_with_len}
use Rattle.apl_faults.specs.declared.fault.Fault.{Fault}
use Rattle.apl_faults.specs.declared.fault.Fault.TheVariants.{Domain, Rank, Length}
use Rattle.apl_arrays.specs.declared.axis_choice.Along.{Along}
use Rattle.apl_arrays.specs.Index.{size_of, position_in}
use Rattle.apl_arrays.specs.Cells.{Arr}
use Rattle.apl_arrays.specs.Axes.{without}
use Rattle.apl_arrays.specs.Views.{turned, reversed, selected, on_axis, length_of}
use Rattle.apl_arrays.specs.Along.{axis_along}
use Rattle.apl_arrays.specs.Checks.{demand, vector_rank, numbers_of, is_single, same}
use Rattle.apl_arrays.specs.Results.{and_then, ok_map, all_ok}

-- the axes in the other order: axis m becomes axis rank - 1 - m
abbrev pub transposed : Arr → Arr
transposed b = turned (map (λ m. length b.shape - 1 - m) (range_with_len 0 (length b.shape))) b

-- a number that counts axes from the index origin, as one from 0: below the origin it is a domain fault
abbrev pub axis_from : ℕ → ℤ → Result ℕ Fault
axis_from origin (pos n) = if nat_le origin n then Ok (n - origin) else Err Domain
axis_from origin (negsuc n) = Err Domain

-- an axis is the first or follows another of these, and doesn't lie beyond as many
abbrev pub has_its_place : List ℕ → ℕ → Bool
has_its_place ms m = nat_lt m (length ms) && ((m == 0) || list_any (λ k. k == m - 1) ms)

-- so does each of these: none is missing
abbrev pub have_no_gap : List ℕ → Bool
have_no_gap ms = list_all (has_its_place ms) ms

-- the axes that the axes of a rank become: one number for each, from the origin on and without a gap
abbrev pub named_axes : ℕ → ℕ → Arr → Result (List ℕ) Fault
named_axes origin rank a =
    and_then (vector_rank a) (λ ok.
    and_then (demand (size_of a.shape == rank) Length) (λ ok.
    and_then (numbers_of a.items) (λ zs.
    and_then (all_ok (axis_from origin) zs) (λ ms.
    ok_map (λ ok. ms) (demand (have_no_gap ms) Domain)))))

-- axis m of B becomes axis A[m]
abbrev pub transposed_by : ℕ → Arr → Arr → Result Arr Fault
transposed_by origin a b = ok_map (λ ms. turned ms b) (named_axes origin (length b.shape) a)

-- the axis taken the other way; a scalar stays
abbrev pub reversed_on : Arr → Option ℕ → Arr
reversed_on b None = b
reversed_on b (Some axis) = reversed axis b

-- the axis is looked at first
abbrev pub reversed_along : Along → ℕ → Arr → Result Arr Fault
reversed_along along origin b = ok_map (reversed_on b) (axis_along along (length b.shape) origin)

-- a shape is another one without the axis
abbrev pub fits_axis : List ℕ → ℕ → List ℕ → Result (Unit {0}) Fault
fits_axis shape axis whole = and_then (demand (length shape + 1 == length whole) Rank) (λ ok. demand (same shape (without axis whole)) Length)

-- one number serves for all lines along the axis; else there is one for each index list of the other axes. A scalar has no line
abbrev pub fits_lines : Arr → Arr → Option ℕ → Result (Unit {0}) Fault
fits_lines a b None = demand (is_single a.shape) Rank
fits_lines a b (Some axis) = if is_single a.shape then Ok tt else fits_axis a.shape axis b.shape

-- by how much the line of an index list is turned round
abbrev pub turn_at : Arr → List ℤ → ℕ → List ℕ → ℤ
turn_at a zs axis i = slice_index_or zs (if is_single a.shape then 0 else position_in a.shape (without axis i)) (pos 0)

-- i and z together, modulo the length
abbrev pub round_index : ℕ → ℤ → ℕ → ℕ
round_index length z i = unsigned_abs (int_rem_euclid (pos i +ℤ z) (pos length))

-- each line along the axis turned round by its number: the element at i is B's at i and its number together, modulo the length
abbrev pub turned_round : Arr → Arr → List ℤ → Option ℕ → Arr
turned_round a b zs None = b
turned_round a b zs (Some axis) = selected b b.shape (λ i. on_axis axis (round_index (length_of b axis) (turn_at a zs axis i)) i)

-- the axis is looked at first, then the shape of A, then its elements
abbrev pub rotated : Along → ℕ → Arr → Arr → Result Arr Fault
rotated along origin a b =
    and_then (axis_along along (length b.shape) origin) (λ axis.
    and_then (fits_lines a b axis) (λ ok.
    ok_map (λ zs. turned_round a b zs axis) (numbers_of a.items)))
