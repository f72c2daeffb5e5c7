-- Folds of items, and reduction, which takes the fold along an axis.
use Rattle.std.specs.Prelude.{ℕ, ℤ, pos, negsuc, ◌==◌, cond, List, [], ◌∷◌, map, length, slice_index_or, Option, None, Some, Result, Ok, Err}
use Rattle.std.specs.List.{range_with_len}
use Rattle.apl_faults.specs.declared.fault.Fault.{Fault}
use Rattle.apl_faults.specs.declared.fault.Fault.TheVariants.{Domain}
use Rattle.apl_arrays.specs.declared.axis_choice.Along.{Along}
use Rattle.apl_arrays.specs.declared.cell.Cell.{Cell}
use Rattle.apl_arrays.specs.declared.cell.Cell.TheVariants.{Num, Char}
use Rattle.apl_arrays.specs.Along.{axis_along}
use Rattle.apl_arrays.specs.Axes.{without, inserted}
use Rattle.apl_arrays.specs.Cells.{Arr, cells_of}
use Rattle.apl_arrays.specs.Index.{indices, position_in}
use Rattle.apl_arrays.specs.Results.{and_then, ok_map, all_ok}
use Rattle.apl_arrays.specs.Views.{length_of}
use Rattle.apl_scalar.specs.declared.function.Dyadic.{Dyadic}
use Rattle.apl_scalar.specs.declared.function.Dyadic.TheVariants as two
use Rattle.apl_scalar.specs.Extension.{dyadic_at, numbers_in}

-- the reduction of nothing
abbrev pub identity : Dyadic → Result ℤ Fault
identity two.Plus = Ok (pos 0)
identity two.Minus = Ok (pos 0)
identity two.Times = Ok (pos 1)
identity two.Divide = Ok (pos 1)
identity two.Power = Ok (pos 1)
identity two.Maximum = Ok (negsuc 9223372036854775807)
identity two.Minimum = Ok (pos 9223372036854775807)
identity two.Residue = Ok (pos 0)
identity two.Less = Ok (pos 0)
identity two.NotGreater = Ok (pos 1)
identity two.Equal = Ok (pos 1)
identity two.NotLess = Ok (pos 1)
identity two.Greater = Ok (pos 0)
identity two.NotEqual = Ok (pos 0)
identity two.And = Ok (pos 1)
identity two.Or = Ok (pos 0)
identity two.Nand = Err Domain
identity two.Nor = Err Domain

-- a function at two items
abbrev pub applied : Dyadic → Cell → Cell → Result Cell Fault
applied f c d = ok_map Num (dyadic_at f (Some c) (Some d))

-- of nothing the identity, of one item the item, of more the function of the first item and the fold of the others
abbrev pub fold : Dyadic → List Cell → Result Cell Fault
fold f [] = ok_map Num (identity f)
fold f (c ∷ []) = Ok c
fold f (c ∷ d ∷ ds) = and_then (fold f (d ∷ ds)) (λ e. applied f c e)

-- the number that an item is
abbrev pub number_in : Cell → ℤ
number_in (Num z) = z
number_in (Char c) = pos 0

-- the fold as a number, which it is but for a single character
abbrev pub folded : Dyadic → List Cell → Result ℤ Fault
folded f items = ok_map number_in (fold f items)

-- the item at an index list within the shape
abbrev pub item_at : Arr → List ℕ → Cell
item_at a i = slice_index_or (cells_of a.items) (position_in a.shape i) (Num (pos 0))

-- the items along an axis, at an index list of the other axes
abbrev pub items_along : ℕ → Arr → List ℕ → List Cell
items_along axis a r = map (λ k. item_at a (inserted axis k r)) (range_with_len 0 (length_of a axis))

-- the fold at each index list of the other axes, or the first fault in their order
abbrev pub folds_along : Dyadic → ℕ → Arr → Result (List ℤ) Fault
folds_along f axis a = all_ok (λ r. folded f (items_along axis a r)) (indices (without axis a.shape))

-- the same in the shape of the other axes
abbrev pub folds_shaped : Dyadic → ℕ → Arr → Result Arr Fault
folds_shaped f axis a = ok_map (numbers_in (without axis a.shape)) (folds_along f axis a)

-- an array without an axis of length 1
abbrev pub squeezed : ℕ → Arr → Arr
squeezed axis a = record { shape = without axis a.shape; items = a.items }

-- along an axis of length 1 the items themselves, and else the folds
abbrev pub reduced_along : Dyadic → ℕ → Arr → Result Arr Fault
reduced_along f axis a = cond (length_of a axis == 1) (Ok (squeezed axis a)) (folds_shaped f axis a)

-- a scalar stays
abbrev pub reduced : Dyadic → Option ℕ → Arr → Result Arr Fault
reduced f None a = Ok a
reduced f (Some axis) a = reduced_along f axis a

-- the axis is looked at first
abbrev pub reduction : Dyadic → Along → Arr → ℕ → Result Arr Fault
reduction f along a origin = and_then (axis_along along (length a.shape) origin) (λ axis. reduced f axis a)
