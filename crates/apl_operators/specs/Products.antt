-- Outer and inner products.
use Rattle.std.specs.Prelude.{ℕ, ℤ, ◌-◌, ◌==◌, cond, List, ◌++◌, map, length, take, drop, slice_index_or, Some, Result, Ok, Err}
use Rattle.std.specs.List.{range_with_len}
use Rattle.apl_faults.specs.declared.fault.Fault.{Fault}
use Rattle.apl_faults.specs.declared.fault.Fault.TheVariants.{Length}
use Rattle.apl_arrays.specs.declared.cell.Cell.{Cell}
use Rattle.apl_arrays.specs.declared.cell.Cell.TheVariants.{Num}
use Rattle.apl_arrays.specs.Index.{indices}
use Rattle.apl_arrays.specs.Cells.{Arr}
use Rattle.apl_arrays.specs.Axes.{without, inserted}
use Rattle.apl_arrays.specs.Checks.{limited}
use Rattle.apl_arrays.specs.Results.{and_then, ok_map, all_ok}
use Rattle.apl_scalar.specs.declared.function.Dyadic.{Dyadic}
use Rattle.apl_scalar.specs.Extension.{dyadic_at, numbers_in}
use Rattle.apl_folds.specs.Folds.{item_at, folded}

-- a function at the first array's item at the first indices of a list, and the second one's at the others
abbrev pub paired : Dyadic → Arr → Arr → List ℕ → Result ℤ Fault
paired g a b i = dyadic_at g (Some (item_at a (take (length a.shape) i))) (Some (item_at b (drop (length a.shape) i)))

-- the shape of the outer product, or LIMIT
abbrev pub outer_shape : Arr → Arr → Result (List ℕ) Fault
outer_shape a b = limited (a.shape ++ b.shape)

-- each item of the first array with each of the second one, after the limits
abbrev pub outer_product : Dyadic → Arr → Arr → Result Arr Fault
outer_product g a b = and_then (outer_shape a b) (λ s. ok_map (numbers_in s) (all_ok (paired g a b) (indices s)))

-- the length of an axis, which for a scalar is 1
abbrev pub length_or_one : ℕ → Arr → ℕ
length_or_one axis a = slice_index_or a.shape axis 1

-- the length of the axes that are joined: one of length 1 extends
abbrev pub joined_length : ℕ → ℕ → Result ℕ Fault
joined_length m n = cond (m == 1) (Ok n) (cond (n == 1) (Ok m) (cond (m == n) (Ok m) (Err Length)))

-- the index on an axis of length n, where one of length 1 extends
abbrev pub extended_index : ℕ → ℕ → ℕ
extended_index n k = cond (n == 1) 0 k

-- the item at an index of the axis that is joined and an index list of the others
abbrev pub joined_item : ℕ → Arr → List ℕ → ℕ → Cell
joined_item axis a i k = item_at a (inserted axis (extended_index (length_or_one axis a) k) i)

-- a function at the items of two arrays along joined axes of length n, for an index list of the result
-- of which the first m indices are those of the first array
abbrev pub met_items : Dyadic → (List ℕ → ℕ → Cell) → (List ℕ → ℕ → Cell) → ℕ → ℕ → List ℕ → Result (List ℤ) Fault
met_items g left right m n i = all_ok (λ k. dyadic_at g (Some (left (take m i) k)) (Some (right (drop m i) k))) (range_with_len 0 n)

-- all that meets, and then its folds
abbrev pub all_folded : Dyadic → (List ℕ → Result (List ℤ) Fault) → List (List ℕ) → Result (List ℤ) Fault
all_folded f meet is = and_then (all_ok meet is) (λ rows. all_ok (λ row. folded f (map Num row)) rows)

-- the last axis of an array
abbrev pub last_axis : Arr → ℕ
last_axis a = length a.shape - 1

-- how long the last axis of the first array and the first axis of the second one are when joined, or LENGTH
abbrev pub axes_joined : Arr → Arr → Result ℕ Fault
axes_joined a b = joined_length (length_or_one (last_axis a) a) (length_or_one 0 b)

-- the lengths of the other axes, those of the first array and then those of the second one
abbrev pub other_axes : Arr → Arr → List ℕ
other_axes a b = without (last_axis a) a.shape ++ without 0 b.shape

-- the shape of the inner product, or LIMIT
abbrev pub inner_shape : Arr → Arr → Result (List ℕ) Fault
inner_shape a b = limited (other_axes a b)

-- along the last axis of the first array and the first axis of the second one, which are n long, g for each index list of the other axes
-- and along the joined ones, and then the folds by f
abbrev pub inner_folds : Dyadic → Dyadic → Arr → Arr → ℕ → List ℕ → Result (List ℤ) Fault
inner_folds f g a b n s = all_folded f (met_items g (joined_item (last_axis a) a) (joined_item 0 b) (last_axis a) n) (indices s)

-- lengths, then limits, then the values in the shape of the other axes
abbrev pub inner_product : Dyadic → Dyadic → Arr → Arr → Result Arr Fault
inner_product f g a b =
    and_then (axes_joined a b) (λ n. and_then (inner_shape a b) (λ s. ok_map (numbers_in s) (inner_folds f g a b n s)))
