-- Arrays as characters.
use Rattle.std.specs.Prelude.{ℕ, ◌+◌, ◌-◌, nat_lt, cond, List, [], ◌∷◌, ◌++◌, length, take, slice_index_or, Result, Ok, Err}
use Rattle.std.specs.List.{flat_map, sum}
use Rattle.apl_faults.specs.declared.fault.Fault.{Fault}
use Rattle.apl_faults.specs.declared.fault.Fault.TheVariants.{Limit}
use Rattle.apl_arrays.specs.Index.{size_of, bound_of}
use Rattle.apl_arrays.specs.Cells.{Arr, Items, Numbers, Characters}
use Rattle.apl_format.specs.Display.{display, vector_line, widths, rows}

-- the axes but the last
abbrev pub outer_of : List ℕ → List ℕ
outer_of s = take (length s - 1) s

-- how long the last axis is
abbrev pub columns_of : List ℕ → ℕ
columns_of s = slice_index_or s (length s - 1) 0

-- how wide a line of columns is, with one blank between any two
abbrev pub line_width : List ℕ → ℕ
line_width ws = sum ws + (length ws - 1)

-- how wide a row of two and more axes is
abbrev pub columns_width : List ℕ → Items → ℕ
columns_width s items = line_width (widths (columns_of s) (rows (size_of (outer_of s)) (columns_of s) items))

-- how wide a row of the display is: a scalar or a vector is one row
unfoldable pub row_width : List ℕ → Items → ℕ
row_width [] items = length (vector_line items)
row_width (n ∷ []) items = length (vector_line items)
row_width (m ∷ n ∷ s) items = columns_width (m ∷ n ∷ s) items

-- characters as they are; of numbers the lines of their display end to end, where the last axis is as long as a row is wide
unfoldable pub text_of : List ℕ → Items → Arr
text_of s (Characters cs) = record { shape = s; items = Characters cs }
text_of s (Numbers zs) = record {
  shape = outer_of s ++ row_width s (Numbers zs) ∷ [];
  items = Characters (flat_map (λ line. line) (display (record { shape = s; items = Numbers zs })));
}

-- an array, or a limit fault where its shape is over the limit on elements
abbrev pub in_limits : Arr → Result Arr Fault
in_limits a = cond (nat_lt 1000000 (bound_of a.shape)) (Err Limit) (Ok a)

-- an array as characters
abbrev pub formatted : Arr → Result Arr Fault
formatted a = in_limits (text_of a.shape a.items)
