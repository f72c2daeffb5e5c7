-- The axis along which a function goes, counted from 0.
use Rattle.std.specs.Prelude.{ℕ, zero, suc, ℤ, pos, negsuc, ◌-◌, ◌&&◌, nat_le, nat_lt, cond}
use Rattle.std.specs.Prelude.{List, [], ◌∷◌, Option, None, Some, Result, Ok, Err}
use Rattle.apl_faults.specs.declared.fault.Fault.{Fault}
use Rattle.apl_faults.specs.declared.fault.Fault.TheVariants as fault
use Rattle.apl_arrays.specs.declared.axis_choice.Along.{Along}
use Rattle.apl_arrays.specs.declared.axis_choice.Along.TheVariants.{First, Last, Named}
use Rattle.apl_arrays.specs.Cells.{Arr, Items, Numbers, Characters}
use Rattle.apl_arrays.specs.Results.{ok_map}

-- the axis that a number counts from the index origin
abbrev pub axis_numbered : ℕ → ℕ → ℤ → Result ℕ Fault
axis_numbered rank origin (pos n) = cond (nat_le origin n && nat_lt (n - origin) rank) (Ok (n - origin)) (Err fault.Axis)
axis_numbered rank origin (negsuc n) = Err fault.Axis

-- the axis that one number counts
abbrev pub axis_counted : ℕ → ℕ → List ℤ → Result ℕ Fault
axis_counted rank origin [] = Err fault.Axis
axis_counted rank origin (z ∷ []) = axis_numbered rank origin z
axis_counted rank origin (y ∷ z ∷ zs) = Err fault.Axis

-- the same of the elements of an array
abbrev pub axis_of : ℕ → ℕ → Items → Result ℕ Fault
axis_of rank origin (Numbers zs) = axis_counted rank origin zs
axis_of rank origin (Characters cs) = Err fault.Axis

-- the axis that index slots name: a single one, which holds one number
abbrev pub axis_named : ℕ → ℕ → List (Option Arr) → Result ℕ Fault
axis_named rank origin [] = Err fault.Axis
axis_named rank origin (None ∷ []) = Err fault.Axis
axis_named rank origin (Some a ∷ []) = axis_of rank origin a.items
axis_named rank origin (s ∷ t ∷ slots) = Err fault.Axis

-- the first of so many axes
abbrev pub first_of : ℕ → Option ℕ
first_of zero = None
first_of (suc n) = Some 0

-- the last one
abbrev pub last_of : ℕ → Option ℕ
last_of zero = None
last_of (suc n) = Some n

-- the axis along which a function goes: a scalar has none, and to name one is an axis fault
abbrev pub axis_along : Along → ℕ → ℕ → Result (Option ℕ) Fault
axis_along First rank origin = Ok (first_of rank)
axis_along Last rank origin = Ok (last_of rank)
axis_along (Named slots) rank origin = ok_map Some (axis_named rank origin slots.now)

-- the axis that these slots name, wherever they lie
abbrev pub along_slots : List (Option Arr) → Along
along_slots slots = Named (record { ref_ptr = (0, 0); now = slots })
