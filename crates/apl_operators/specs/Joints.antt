-- Rows of one list of numbers with columns of another, along joined axes.
use Rattle.std.specs.Prelude.{◌≡◌, ◌≢◌, ℕ, ℤ, pos, ◌+◌, ◌*◌, ◌/◌, ◌%◌, ◌==◌, cond}
use Rattle.std.specs.Prelude.{List, [], ◌∷◌, ◌++◌, map, slice_index_or, Option, None, Some, Result, Ok, Err}
use Rattle.std.specs.List.{range_with_len}
use Rattle.apl_faults.specs.declared.fault.Fault.{Fault}
use Rattle.apl_arrays.specs.declared.cell.Cell.TheVariants.{Num}
use Rattle.apl_arrays.specs.Cells.{Items}
use Rattle.apl_arrays.specs.Results.{and_then, ok_map, all_ok}
use Rattle.apl_scalar.specs.declared.function.Dyadic.{Dyadic}
use Rattle.apl_folds.specs.Folds.{folded}
use Rattle.apl_operators.specs.declared.joint.Joint.{Joint}
use Rattle.apl_operators.specs.Products.{extended_index}
use Rattle.apl_operators.specs.Places.{cells_met}

-- where the k-th item stands of the row that meets a column at a place of the result
abbrev pub row_place : Joint → ℕ → ℕ → ℕ
row_place j r k = (r / j.columns) * j.left + extended_index j.left k

-- where that of the column stands
abbrev pub column_place : Joint → ℕ → ℕ → ℕ
column_place j r k = extended_index j.right k * j.columns + r % j.columns

-- a function along a row of the first list and a column of the second one, which are so long
abbrev pub met : (ℤ → ℤ → Result ℤ Fault) → List ℤ → List ℤ → Joint → ℕ → Result (List ℤ) Fault
met g xs ys j r =
    all_ok (λ k. g (slice_index_or xs (row_place j r k) (pos 0)) (slice_index_or ys (column_place j r k) (pos 0))) (range_with_len 0 j.joined)

-- the same of elements
abbrev pub met_cells : Dyadic → Items → Items → Joint → ℕ → Result (List ℤ) Fault
met_cells g a b j r = all_ok (λ k. cells_met g a b (row_place j r k) (column_place j r k)) (range_with_len 0 j.joined)

-- all that meets, and then its folds
abbrev pub folds_of : Dyadic → (ℕ → Result (List ℤ) Fault) → List ℕ → Result (List ℤ) Fault
folds_of f meet rs = and_then (all_ok meet rs) (λ rows. all_ok (λ row. folded f (map Num row)) rows)

-- the same for each place of the result
abbrev pub folds_met : Dyadic → (ℕ → Result (List ℤ) Fault) → Joint → Result (List ℤ) Fault
folds_met f meet j = folds_of f meet (range_with_len 0 (j.rows * j.columns))

-- the folds so far, or the first fault of theirs
abbrev pub so_far : List ℤ → Option Fault → Result (List ℤ) Fault
so_far zs None = Ok zs
so_far zs (Some fault) = Err fault

-- the folds so far and that of a row more, or the first fault of theirs
abbrev pub fold_after : Dyadic → List ℤ → Option Fault → List ℤ → Result (List ℤ) Fault
fold_after f zs refused row = and_then (so_far zs refused) (λ ys. ok_map (λ y. ys ++ y ∷ []) (folded f (map Num row)))

-- where the numbers on an axis stand, from a place on with such steps: one that is of length 1 extends
abbrev pub step_of : ℕ → ℕ → ℕ
step_of len step = cond (len == 1) 0 step

-- the folds so far and those of what meets at these places
abbrev pub folds_after : List ℤ → Option Fault → Dyadic → (ℕ → Result (List ℤ) Fault) → List ℕ → Result (List ℤ) Fault
folds_after zs refused f meet rs =
    and_then (all_ok meet rs) (λ rows. and_then (so_far zs refused) (λ ys. ok_map (λ ws. ys ++ ws) (all_ok (λ row. folded f (map Num row)) rows)))

-- axes of length 1 extend to the others
pub record Joins (j : Joint) (m n : ℕ) : Type 0 where
  pub left : m ≡ j.rows * j.left
  pub right : n ≡ j.right * j.columns
  pub left_fits : j.left ≢ 1 → j.left ≡ j.joined
  pub right_fits : j.right ≢ 1 → j.right ≡ j.joined
