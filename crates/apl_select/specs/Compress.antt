-- Compression and expansion: a vector of zeros and ones along an axis.
use Rattle.std.specs.Prelude.{ℕ, ℤ, pos, negsuc, ◌==◌, ◌||◌, nat_lt, Bool, false, cond}
use Rattle.std.specs.Prelude.{List, map, take, length, slice_index_or, count_by, Option, None, Some, Result, Ok, Err}
use Rattle.std.specs.List.{filter, list_all, range_with_len}
use Rattle.apl_faults.specs.declared.fault.Fault.{Fault}
use Rattle.apl_faults.specs.declared.fault.Fault.TheVariants.{Domain, Length}
use Rattle.apl_arrays.specs.declared.axis_choice.Along.{Along}
use Rattle.apl_arrays.specs.Cells.{Arr, Items, Numbers, Characters}
use Rattle.apl_arrays.specs.Results.{and_then, ok_map}
use Rattle.apl_arrays.specs.Views.{length_of}
use Rattle.apl_arrays.specs.Checks.{demand, vector_rank, numbers_of, count_of}
use Rattle.apl_select.specs.Lined.{lined, axis_in, place_served, laid_within}

-- the number is 1
abbrev pub is_one : ℤ → Bool
is_one (pos n) = n == 1
is_one (negsuc n) = false

-- the number is 0 or 1
abbrev pub is_bit : ℤ → Bool
is_bit (pos n) = nat_lt n 2
is_bit (negsuc n) = false

-- the elements, where zeros and ones are needed
abbrev pub bits_of : Items → Result (List ℤ) Fault
bits_of items = and_then (numbers_of items) (λ zs. ok_map (λ u. zs) (demand (list_all is_bit zs) Domain))

-- how many elements are 1: no character is
abbrev pub ones : Items → ℕ
ones (Numbers zs) = count_by is_one zs
ones (Characters cs) = 0

-- how many items there are of each, where there are m of one and n of the other: either extends from 1
abbrev pub common_count : ℕ → ℕ → Result ℕ Fault
common_count m n = cond (m == 1) (Ok n) (cond (n == 1) (Ok m) (cond (m == n) (Ok n) (Err Length)))

-- of so many places on an axis of length n those at a 1
abbrev pub kept : List ℤ → ℕ → ℕ → List (Option ℕ)
kept bits n count = map (λ k. Some (place_served n k)) (filter (λ k. is_one (slice_index_or bits (place_served (length bits) k) (pos 0))) (range_with_len 0 count))

-- the place on an axis of length n for the bit at k: at a 1 the next one, at a 0 none
abbrev pub spread_at : List ℤ → ℕ → ℕ → Option ℕ
spread_at bits n k = cond (is_one (slice_index_or bits k (pos 0))) (Some (place_served n (count_by is_one (take k bits)))) None

-- the same of all bits
abbrev pub spread : List ℤ → ℕ → List (Option ℕ)
spread bits n = map (spread_at bits n) (range_with_len 0 (length bits))

-- the axis along which a mask goes: a given axis first, then RANK where the mask has more than one axis
abbrev pub mask_axis : Along → Arr → Arr → ℕ → Result ℕ Fault
mask_axis along a b origin = and_then (axis_in along b origin) (λ axis. ok_map (λ u. axis) (vector_rank a))

-- the places on an axis that a mask keeps: LENGTH before DOMAIN
abbrev pub places_kept : Arr → ℕ → Arr → Result (List (Option ℕ)) Fault
places_kept a axis b =
    and_then (common_count (count_of a) (length_of b axis)) (λ count. ok_map (λ bits. kept bits (length_of b axis) count) (bits_of a.items))

-- the places over which a mask spreads those of an axis: as many ones as places, or one place that serves at each; LENGTH before DOMAIN
abbrev pub places_spread : Arr → ℕ → Arr → Result (List (Option ℕ)) Fault
places_spread a axis b =
    and_then (demand (length_of b axis == 1 || ones a.items == length_of b axis) Length) (λ u.
    ok_map (λ bits. spread bits (length_of b axis)) (bits_of a.items))

-- what compression checks before it asks for memory: the axis and the mask, then their lengths
abbrev pub compression_checks : Along → Arr → Arr → ℕ → Result (List (Option ℕ)) Fault
compression_checks along a b origin = and_then (mask_axis along a b origin) (λ axis. places_kept a axis (lined b))

-- the same of expansion
abbrev pub expansion_checks : Along → Arr → Arr → ℕ → Result (List (Option ℕ)) Fault
expansion_checks along a b origin = and_then (mask_axis along a b origin) (λ axis. places_spread a axis (lined b))

-- the places at ones are kept, the result's limits last
abbrev pub compressed_along : Arr → ℕ → Arr → Result Arr Fault
compressed_along a axis b = and_then (places_kept a axis b) (λ places. laid_within axis places b)

-- the places are spread over the ones, the result's limits last
abbrev pub expanded_along : Arr → ℕ → Arr → Result Arr Fault
expanded_along a axis b = and_then (places_spread a axis b) (λ places. laid_within axis places b)

-- compression: what is asked of the axis and the mask, then of their lengths
abbrev pub compressed : Along → Arr → Arr → ℕ → Result Arr Fault
compressed along a b origin = and_then (mask_axis along a b origin) (λ axis. compressed_along a axis (lined b))

-- expansion, in the same order
abbrev pub expanded : Along → Arr → Arr → ℕ → Result Arr Fault
expanded along a b origin = and_then (mask_axis along a b origin) (λ axis. expanded_along a axis (lined b))
