-- The first or last elements along each axis, and the others.
use Rattle.std.specs.Prelude.{ℕ, ℤ, pos, ◌+◌, ◌-◌, ◌==◌, nat_le, min, unsigned_abs, Bool, true, if◌then◌else◌, Result}
use Rattle.std.specs.Prelude.{List, [], ◌∷◌, map, length, replicate, slice_index_or}
use Rattle.std.specs.Int.{is_negative}
use Rattle.std.specs.List.{range_with_len}
use Rattle.apl_faults.specs.declared.fault.Fault.{Fault}
use Rattle.apl_faults.specs.declared.fault.Fault.TheVariants.{Length, Limit}
use Rattle.apl_arrays.specs.Index.{size_of, indices, is_within, position_in}
use Rattle.apl_arrays.specs.Cells.{Arr, Items, Numbers, Characters}
use Rattle.apl_arrays.specs.Views.{all_at, selected}
use Rattle.apl_arrays.specs.Results.{and_then, ok_map}
use Rattle.apl_arrays.specs.Checks.{demand, limited, numbers_of, vector_rank}

-- the lengths with which an operand takes part: a scalar gets so many axes of length 1
abbrev pub with_axes : ℕ → List ℕ → List ℕ
with_axes count [] = replicate count 1
with_axes count (n ∷ ns) = n ∷ ns

-- the operand with these lengths
abbrev pub widened : ℕ → Arr → Arr
widened count b = record { shape = with_axes count b.shape; items = b.items }

-- a count is that of the axes; for a scalar any is
abbrev pub fits_axes : ℕ → List ℕ → Bool
fits_axes count [] = true
fits_axes count (n ∷ ns) = count == length (n ∷ ns)

-- one number for each axis
abbrev pub named_counts : Arr → List ℕ → Result (List ℤ) Fault
named_counts a shape =
    and_then (vector_rank a) (λ ok.
    and_then (demand (fits_axes (size_of a.shape) shape) Length) (λ ok.
    numbers_of a.items))

-- f of each axis: its length, its number and the index
abbrev pub on_axes : (ℕ → ℤ → ℕ → ℕ) → List ℕ → List ℤ → List ℕ → List ℕ
on_axes f [] zs is = []
on_axes f (n ∷ ns) [] is = []
on_axes f (n ∷ ns) (z ∷ zs) [] = []
on_axes f (n ∷ ns) (z ∷ zs) (i ∷ is) = f n z i ∷ on_axes f ns zs is

-- of an axis of n elements, the one that is the i-th of so many from its end; n where there is none
abbrev pub place_from_end : ℕ → ℕ → ℕ → ℕ
place_from_end n wanted i = if nat_le wanted (i + n) then i + n - wanted else n

-- of an axis of n elements, the one that is the i-th of so many from the start or from the end
abbrev pub place_taken : Bool → ℕ → ℕ → ℕ → ℕ
place_taken from_end n wanted i = if from_end then place_from_end n wanted i else i

-- so many items of a list, from the start or from the end, with fills where there are too few
abbrev pub line_taken : {A : Type 0} → Bool → ℕ → List A → A → List A
line_taken from_end wanted xs fill = all_at xs (place_taken from_end (length xs) wanted) (range_with_len 0 wanted) fill

-- of an axis of n elements, the one that is taken i-th: from the start, or so that the last is taken last; n or more where there is none
abbrev pub taken_index : ℕ → ℤ → ℕ → ℕ
taken_index n z i = place_taken (is_negative z) n (unsigned_abs z) i

-- the element at an index list, or a fill where there is none
abbrev pub element_or : {A : Type 0} → List ℕ → List A → A → List ℕ → A
element_or s xs fill i = if is_within s i then slice_index_or xs (position_in s i) fill else fill

-- the element that is taken for an index list
abbrev pub taken_from : {A : Type 0} → List ℕ → List ℤ → List A → A → List ℕ → A
taken_from s zs xs fill i = element_or s xs fill (on_axes taken_index s zs i)

-- the elements at the index lists that g makes of these, with fills, 0 or blank
abbrev pub found_or_filled : List ℕ → Items → (List ℕ → List ℕ) → List (List ℕ) → Items
found_or_filled s (Numbers zs) g is = Numbers (map (λ i. element_or s zs (pos 0) (g i)) is)
found_or_filled s (Characters cs) g is = Characters (map (λ i. element_or s cs 32 (g i)) is)

-- the elements that are taken for these index lists
abbrev pub taken_for : List ℕ → List ℤ → Items → List (List ℕ) → Items
taken_for s zs items is = found_or_filled s items (on_axes taken_index s zs) is

-- so many elements along each axis, from the start or from the end, with fills where there are too few
abbrev pub taken_by : List ℤ → Arr → Arr
taken_by zs b = let s = map unsigned_abs zs in record { shape = s; items = taken_for b.shape zs b.items (indices s) }

abbrev pub taken : Arr → Arr → Result Arr Fault
taken a b = and_then (named_counts a b.shape) (λ zs. ok_map (λ ok. taken_by zs (widened (length zs) b)) (limited (map unsigned_abs zs)))

-- how many of an axis are left
abbrev pub left_length : ℕ → ℤ → ℕ
left_length n z = n - unsigned_abs z

-- how many of an axis are dropped from its start
abbrev pub left_from : ℕ → ℤ → ℕ
left_from n z = if is_negative z then 0 else min (unsigned_abs z) n

-- f of each axis: its length and its number
abbrev pub each_axis : (ℕ → ℤ → ℕ) → List ℕ → List ℤ → List ℕ
each_axis f [] zs = []
each_axis f (n ∷ ns) [] = []
each_axis f (n ∷ ns) (z ∷ zs) = f n z ∷ each_axis f ns zs

-- the sums of two lists
abbrev pub added : List ℕ → List ℕ → List ℕ
added [] is = is
added (n ∷ ns) [] = []
added (n ∷ ns) (i ∷ is) = (i + n) ∷ added ns is

-- the part of an array that begins at these indices and has these lengths
abbrev pub part : List ℕ → List ℕ → Arr → Arr
part froms lens b = selected b lens (added froms)

-- what is left without so many elements along each axis, from the start or from the end
abbrev pub dropped_by : List ℤ → Arr → Arr
dropped_by zs b = part (each_axis left_from b.shape zs) (each_axis left_length b.shape zs) b

-- only a scalar can get too many axes
abbrev pub dropped : Arr → Arr → Result Arr Fault
dropped a b = and_then (named_counts a b.shape) (λ zs. ok_map (λ ok. dropped_by zs (widened (length zs) b)) (demand (nat_le (length zs) 8) Limit))
