-- Scans: the folds of the first items along an axis.
use Rattle.std.specs.Prelude.{ℕ, ℤ, ◌+◌, ◌==◌, ◌||◌, Bool, cond, List, take, length, slice_index_or, Option, None, Some, Result, Ok}
use Rattle.apl_faults.specs.declared.fault.Fault.{Fault}
use Rattle.apl_faults.specs.declared.fault.Fault.TheVariants.{Domain}
use Rattle.apl_arrays.specs.declared.axis_choice.Along.{Along}
use Rattle.apl_arrays.specs.declared.cell.Cell.{Cell}
use Rattle.apl_arrays.specs.Along.{axis_along}
use Rattle.apl_arrays.specs.Axes.{without}
use Rattle.apl_arrays.specs.Cells.{Arr}
use Rattle.apl_arrays.specs.Index.{size_of, indices}
use Rattle.apl_arrays.specs.Kinds.{are_numbers}
use Rattle.apl_arrays.specs.Checks.{demand}
use Rattle.apl_arrays.specs.Results.{and_then, ok_map, all_ok}
use Rattle.apl_arrays.specs.Views.{length_of}
use Rattle.apl_scalar.specs.declared.function.Dyadic.{Dyadic}
use Rattle.apl_scalar.specs.Extension.{numbers_in}
use Rattle.apl_folds.specs.Folds.{folded, items_along}

-- the items along an axis up to the one at an index list
abbrev pub items_up_to : ℕ → Arr → List ℕ → List Cell
items_up_to axis a i = take (slice_index_or i axis 0 + 1) (items_along axis a (without axis i))

-- the fold of the items up to each index list, or the first fault in their order
abbrev pub prefixes_along : Dyadic → ℕ → Arr → Result (List ℤ) Fault
prefixes_along f axis a = all_ok (λ i. folded f (items_up_to axis a i)) (indices a.shape)

-- the same in the array's shape
abbrev pub prefixes_shaped : Dyadic → ℕ → Arr → Result Arr Fault
prefixes_shaped f axis a = ok_map (numbers_in a.shape) (prefixes_along f axis a)

-- an empty array and one that is of length 1 along the axis stay
abbrev pub stays : ℕ → Arr → Bool
stays axis a = size_of a.shape == 0 || length_of a axis == 1

-- a scalar stays; of characters there is no other scan
abbrev pub scannable : Arr → Option ℕ → Result (Unit {0}) Fault
scannable a None = Ok tt
scannable a (Some axis) = demand (stays axis a || are_numbers a.items) Domain

-- what is looked at before memory is asked for: the axis, and then whether the elements can be scanned along it
abbrev pub scan_checked : Along → Arr → ℕ → Result (Unit {0}) Fault
scan_checked along a origin = and_then (axis_along along (length a.shape) origin) (scannable a)

-- the prefixes, unless the array stays
abbrev pub scanned_along : Dyadic → ℕ → Arr → Result Arr Fault
scanned_along f axis a = and_then (scannable a (Some axis)) (λ u. cond (stays axis a) (Ok a) (prefixes_shaped f axis a))

-- a scalar stays
abbrev pub scanned : Dyadic → Option ℕ → Arr → Result Arr Fault
scanned f None a = Ok a
scanned f (Some axis) a = scanned_along f axis a

-- the axis is looked at first
abbrev pub scanning : Dyadic → Along → Arr → ℕ → Result Arr Fault
scanning f along a origin = and_then (axis_along along (length a.shape) origin) (λ axis. scanned f axis a)
