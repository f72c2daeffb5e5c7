-- What is said of a part of the lines.
-- All parts together are the lines of `Display`.
use Rattle.std.specs.Prelude.{◌≡◌, ℕ, ◌==◌, List, [], ◌∷◌, ◌++◌, length, if◌then◌else◌}
use Rattle.std.specs.List.{flat_map}
use Rattle.apl_arrays.specs.Index.{size_of}
use Rattle.apl_arrays.specs.Cells.{Arr, Items, Numbers, Characters}
use Rattle.apl_format.specs.Display.{rows, row_line, vector_line, widths}
use Rattle.apl_format.specs.Formatted.{line_width}

-- what stands before an item, which the first lacks
abbrev pub before : {A : Type 0} → A → ℕ → List A
before between place = if place == 0 then [] else between ∷ []

-- of numbers these are the columns' widths; characters have no need of them
abbrev pub AreWidths : ℕ → ℕ → Items → List ℕ → Type 0
AreWidths count columns (Numbers zs) ws = ws ≡ widths columns (rows count columns (Numbers zs))
AreWidths count columns (Characters cs) ws = Unit {0}

-- there is a width for each column of numbers
abbrev pub HaveWidths : ℕ → Items → List ℕ → Type 0
HaveWidths columns (Numbers zs) ws = length ws ≡ columns
HaveWidths columns (Characters cs) ws = Unit {0}

-- the characters of the line of a scalar or a vector
unfoldable pub line_text : Items → Arr
line_text items = record { shape = length (vector_line items) ∷ []; items = Characters (vector_line items) }

-- the lines of so many rows end to end, in columns of these widths
abbrev pub row_texts : List ℕ → ℕ → Items → List ℕ
row_texts ws count items = flat_map (row_line ws) (rows count (length ws) items)

-- the rows' lines end to end, by the axes but the last and the length of the last
unfoldable pub rows_text : List ℕ → ℕ → Items → Arr
rows_text outer columns items =
    let ws = widths columns (rows (size_of outer) columns items) in
    record { shape = outer ++ line_width ws ∷ []; items = Characters (flat_map (row_line ws) (rows (size_of outer) columns items)) }
