-- Shape, ravel, and elements in another shape.
use Rattle.std.specs.Prelude.{unsigned_abs, ℕ, ℤ, pos, ◌%◌, List, map, length, not, Result, slice_index_or}
use Rattle.std.specs.Int.{is_negative}
use Rattle.std.specs.List.{list_any, range_with_len}
use Rattle.apl_faults.specs.declared.fault.Fault.{Fault}
use Rattle.apl_faults.specs.declared.fault.Fault.TheVariants.{Domain}
use Rattle.apl_arrays.specs.Index.{size_of}
use Rattle.apl_arrays.specs.Cells.{Arr, Items, Numbers, Characters}
use Rattle.apl_arrays.specs.Simple.{vector}
use Rattle.apl_arrays.specs.Results.{and_then, ok_map}
use Rattle.apl_arrays.specs.Checks.{demand, limited, numbers_of, vector_rank}

-- the lengths of the axes, as a vector
abbrev pub shape_of : Arr → Arr
shape_of b = vector (Numbers (map pos b.shape))

-- the elements in ravel order, as a vector
abbrev pub raveled : Arr → Arr
raveled b = vector b.items

-- the shape that these lengths name: a negative one is a domain fault
abbrev pub shape_named : List ℤ → Result (List ℕ) Fault
shape_named zs = and_then (demand (not (list_any is_negative zs)) Domain) (λ ok. limited (map unsigned_abs zs))

-- the shape that a scalar or a vector of lengths names
abbrev pub named_shape : Arr → Result (List ℕ) Fault
named_shape a = and_then (vector_rank a) (λ ok. and_then (numbers_of a.items) shape_named)

-- the item at a place, counted round from the start; where there are none it is a fill
abbrev pub item_round : {A : Type 0} → List A → A → ℕ → A
item_round xs fill k = slice_index_or xs (k % length xs) fill

-- n elements, taken round from these; where there are none they are fills, 0 or blank
abbrev pub taken_round : ℕ → Items → Items
taken_round n (Numbers zs) = Numbers (map (item_round zs (pos 0)) (range_with_len 0 n))
taken_round n (Characters cs) = Characters (map (item_round cs 32) (range_with_len 0 n))

-- B's ravel, taken round, in the shape that A names
abbrev pub reshaped : Arr → Arr → Result Arr Fault
reshaped a b = ok_map (λ s. record { shape = s; items = taken_round (size_of s) b.items }) (named_shape a)
