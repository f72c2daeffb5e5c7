-- The lines that show an array.
use Rattle.std.specs.Prelude.{ℕ, ℤ, pos, negsuc, suc, zero, ◌*◌, ◌-◌, ◌==◌, max, decimal, if◌then◌else◌}
use Rattle.std.specs.Prelude.{List, [], ◌∷◌, ◌++◌, map, take, drop, length, replicate, fold}
use Rattle.std.specs.List.{flat_map}
use Rattle.std.specs.Simd.Lanes.{zip2}
use Rattle.apl_arrays.specs.Cells.{Arr, Items, Numbers, Characters}

-- a number's digits, a high minus before a negative one
unfoldable pub number_text : ℤ → List ℕ
number_text (pos n) = decimal n
number_text (negsuc n) = 0xAF ∷ decimal (suc n)

-- lists end to end, with an item between any two
unfoldable pub joined : {A : Type 0} → A → List (List A) → List A
joined between [] = []
joined between (x ∷ xs) = x ++ flat_map (λ y. between ∷ y) xs

-- the line of a scalar or a vector: numbers with one blank between, characters without
unfoldable pub vector_line : Items → List ℕ
vector_line (Numbers zs) = joined 32 (map number_text zs)
vector_line (Characters cs) = cs

-- the first so many elements of a ravel
abbrev pub first_of_ravel : ℕ → Items → Items
first_of_ravel n (Numbers zs) = Numbers (take n zs)
first_of_ravel n (Characters cs) = Characters (take n cs)

-- the elements after them
abbrev pub dropped : ℕ → Items → Items
dropped n (Numbers zs) = Numbers (drop n zs)
dropped n (Characters cs) = Characters (drop n cs)

-- the first so many rows, each of so many columns
unfoldable pub rows : ℕ → ℕ → Items → List Items
rows zero columns items = []
rows (suc n) columns items = first_of_ravel columns items ∷ rows n columns (dropped columns items)

-- the first so many planes, each of so many rows
unfoldable pub planes : ℕ → ℕ → ℕ → Items → List (List Items)
planes zero height columns items = []
planes (suc n) height columns items = rows height columns items ∷ planes n height columns (dropped (height * columns) items)

-- how wide each element of a row is
abbrev pub item_widths : Items → List ℕ
item_widths (Numbers zs) = map (λ z. length (number_text z)) zs
item_widths (Characters cs) = map (λ _. 1) cs

-- how wide each column is: as its widest element
unfoldable pub widths : ℕ → List Items → List ℕ
widths columns rows = fold (zip2 max) (replicate columns 0) (map item_widths rows)

-- a text behind blanks, which fill it up to a width
unfoldable pub padded : ℕ → List ℕ → List ℕ
padded width text = replicate (width - length text) 32 ++ text

-- the line of a row: each number right-aligned in its column, one blank between, or the characters
unfoldable pub row_line : List ℕ → Items → List ℕ
row_line ws (Numbers zs) = joined 32 (zip2 padded ws (map number_text zs))
row_line ws (Characters cs) = cs

-- the lines of so many planes: one empty line between any two, and none at all without rows
unfoldable pub matrix_lines : ℕ → ℕ → ℕ → Items → List (List ℕ)
matrix_lines count height columns items =
    let ws = widths columns (rows (count * height) columns items) in
    if height == 0 then [] else joined [] (map (map (row_line ws)) (planes count height columns items))

-- the same by the shape, where so many arrays of it stand one after another
unfoldable pub lines_of : ℕ → List ℕ → Items → List (List ℕ)
lines_of count [] items = vector_line items ∷ []
lines_of count (n ∷ []) items = vector_line items ∷ []
lines_of count (height ∷ columns ∷ []) items = matrix_lines count height columns items
lines_of count (n ∷ height ∷ columns ∷ shape) items = lines_of (count * n) (height ∷ columns ∷ shape) items

-- the lines that show an array
unfoldable pub display : Arr → List (List ℕ)
display a = lines_of 1 a.shape a.items
