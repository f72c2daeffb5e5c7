-- The values of a function by the places of its numbers.
use Rattle.std.specs.Prelude.{ℕ, ℤ, pos, ◌*◌, ◌/◌, ◌%◌, List, length, slice_index_or, Some, Result}
use Rattle.std.specs.List.{range_with_len}
use Rattle.apl_faults.specs.declared.fault.Fault.{Fault}
use Rattle.apl_arrays.specs.declared.cell.Cell.{Cell}
use Rattle.apl_arrays.specs.declared.cell.Cell.TheVariants.{Num}
use Rattle.apl_arrays.specs.Cells.{Items, cells_of}
use Rattle.apl_arrays.specs.Results.{all_ok}
use Rattle.apl_scalar.specs.declared.function.Dyadic.{Dyadic}
use Rattle.apl_scalar.specs.Extension.{dyadic_at}

-- The element at a place. No product reads a place beyond the elements, where this says 0: `row_below` and `rest_below` of apl_arrays show it
-- of the outer ones, and `left_below` and `right_below` of `Meeting` of the inner ones.
abbrev pub cell_of : Items → ℕ → Cell
cell_of items place = slice_index_or (cells_of items) place (Num (pos 0))

-- a function at two elements by their places
abbrev pub cells_met : Dyadic → Items → Items → ℕ → ℕ → Result ℤ Fault
cells_met g a b i j = dyadic_at g (Some (cell_of a i)) (Some (cell_of b j))

-- a function of numbers for a place of the result: each number of the first list with each of the second one
abbrev pub crossed : (ℤ → ℤ → Result ℤ Fault) → List ℤ → List ℤ → ℕ → Result ℤ Fault
crossed g xs ys r = g (slice_index_or xs (r / length ys) (pos 0)) (slice_index_or ys (r % length ys) (pos 0))

-- the same of elements
abbrev pub crossed_cells : Dyadic → Items → Items → ℕ → Result ℤ Fault
crossed_cells g a b r = cells_met g a b (r / length (cells_of b)) (r % length (cells_of b))

-- a function of one number with each of others
abbrev pub row_of : (ℤ → ℤ → Result ℤ Fault) → ℤ → List ℤ → Result (List ℤ) Fault
row_of g x ys = all_ok (λ k. g x (slice_index_or ys k (pos 0))) (range_with_len 0 (length ys))

-- a function of each number with each of others
abbrev pub crossing : (ℤ → ℤ → Result ℤ Fault) → List ℤ → List ℤ → Result (List ℤ) Fault
crossing g xs ys = all_ok (crossed g xs ys) (range_with_len 0 (length xs * length ys))

-- the same of elements
abbrev pub crossing_cells : Dyadic → Items → Items → Result (List ℤ) Fault
crossing_cells g a b = all_ok (crossed_cells g a b) (range_with_len 0 (length (cells_of a) * length (cells_of b)))
