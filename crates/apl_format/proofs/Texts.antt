-- The characters of a display, by its rows.
use Rattle.std.proofs.Common.{◌≡◌, ℕ, zero, suc, ◌+◌, ◌*◌, ◌-◌, ◌≤◌, ℤ, List, [], ◌∷◌, ◌++◌, length, map, refl, sym, ap, ◌∙◌, arith, zero-mul, mul-zero, mul_assoc, mul-one, one-mul}
use Rattle.std.specs.List.{flat_map}
use Rattle.std.proofs.lemmas.List.{append-nil, length-append, take-append-le, take_all, get_or_at}
use Rattle.std.proofs.lemmas.List.Concat.{flat_map-append}
use Rattle.std.proofs.lemmas.List.Folds.{flat_map-map}
use Rattle.apl_arrays.specs.Index.{size_of}
use Rattle.apl_arrays.specs.Cells.{Items, Numbers, Characters}
use Rattle.apl_format.specs.Display.{display, lines_of, matrix_lines, vector_line, joined, rows, planes, row_line, widths, dropped}
use Rattle.apl_format.specs.Formatted.{outer_of, columns_of, line_width, row_width, text_of}
use Rattle.apl_format.specs.inside.Parts.{line_text, rows_text}
use Rattle.apl_format.proofs.Rows.{rows_append, rows_none, matrix_none, matrix_by_widths}
use Rattle.apl_format.proofs.Shapes.{lines_step}

-- empty lines between add nothing
flat_gaps : (ps : List (List (List ℕ))) → flat_map (λ l. l) (flat_map (λ y. [] ∷ y) ps) ≡ flat_map (λ p. flat_map (λ l. l) p) ps
flat_gaps [] = refl
flat_gaps (p ∷ ps) = flat_map-append (λ l. l) ([] ∷ p) (flat_map (λ y. [] ∷ y) ps) ∙ ap (λ t. flat_map (λ l. l) p ++ t) (flat_gaps ps)

flat_joined : (ps : List (List (List ℕ))) → flat_map (λ l. l) (joined [] ps) ≡ flat_map (λ p. flat_map (λ l. l) p) ps
unfolding joined
flat_joined [] = refl
flat_joined (p ∷ ps) = flat_map-append (λ l. l) p (flat_map (λ y. [] ∷ y) ps) ∙ ap (λ t. flat_map (λ l. l) p ++ t) (flat_gaps ps)

-- planes end to end are their rows end to end
flat_planes : (f : Items → List ℕ) (n h c : ℕ) (items : Items) → flat_map (λ p. flat_map (λ l. l) p) (map (map f) (planes n h c items)) ≡ flat_map f (rows (n * h) c items)
unfolding planes
flat_planes f zero h c items = sym (ap (λ k. flat_map f (rows k c items)) (zero-mul h) ∙ ap (flat_map f) (rows_none c items))
flat_planes f (suc n) h c items =
    let others = flat_planes f n h c (dropped (h * c) items) in
    let first = flat_map-map (λ l. l) f (rows h c items) in
    let both : flat_map f (rows h c items) ++ flat_map f (rows (n * h) c (dropped (h * c) items)) ≡ flat_map f (rows (h + n * h) c items) =
    sym (ap (flat_map f) (rows_append h (n * h) c items) ∙ flat_map-append f (rows h c items) (rows (n * h) c (dropped (h * c) items))) in
    ap (λ t. t ++ flat_map (λ p. flat_map (λ l. l) p) (map (map f) (planes n h c (dropped (h * c) items)))) first
    ∙ ap (λ t. flat_map f (rows h c items) ++ t) others ∙ both ∙ ap (λ k. flat_map f (rows k c items)) (omega arith)

-- the rows' lines end to end
abbrev text : ℕ → ℕ → List ℤ → List ℕ
text k c zs = flat_map (row_line (widths c (rows k c (Numbers zs)))) (rows k c (Numbers zs))

matrix_text : (n h c : ℕ) (zs : List ℤ) → flat_map (λ l. l) (matrix_lines n h c (Numbers zs)) ≡ text (n * h) c zs
matrix_text n zero c zs =
    ap (flat_map (λ l. l)) (matrix_none n 0 c (Numbers zs) refl)
    ∙ sym (ap (flat_map (row_line (widths c (rows (n * 0) c (Numbers zs))))) (ap (λ k. rows k c (Numbers zs)) (mul-zero n) ∙ rows_none c (Numbers zs)))
matrix_text n (suc h) c zs =
    let ws = widths c (rows (n * suc h) c (Numbers zs)) in
    ap (flat_map (λ l. l)) (sym (matrix_by_widths n (suc h) c (Numbers zs) ws (λ e. absurd (omega arith)) refl))
    ∙ flat_joined (map (map (row_line ws)) (planes n (suc h) c (Numbers zs))) ∙ flat_planes (row_line ws) n (suc h) c (Numbers zs)

lines_text : (count n : ℕ) (s : List ℕ) (c : ℕ) (zs : List ℤ) → flat_map (λ l. l) (lines_of count (n ∷ s ++ c ∷ []) (Numbers zs)) ≡ text (count * size_of (n ∷ s)) c zs
unfolding lines_of
lines_text count n [] c zs = matrix_text count n c zs ∙ ap (λ k. text k c zs) (ap (λ m. count * m) (sym (mul-one n)))
lines_text count n (m ∷ s) c zs =
    ap (flat_map (λ l. l)) (lines_step count n (m ∷ s ++ c ∷ []) (Numbers zs) (rw length-append (omega arith)))
    ∙ lines_text (count * n) m s c zs ∙ ap (λ k. text k c zs) (mul_assoc count n (size_of (m ∷ s)))

outer_at : (s : List ℕ) (c : ℕ) → outer_of (s ++ c ∷ []) ≡ s
outer_at s c =
    let one : length (s ++ c ∷ []) ≡ length s + 1 = length-append s (c ∷ []) in
    let prefix : length (s ++ c ∷ []) - 1 ≡ length s = omega arith in
    rw (prefix) (take-append-le (length s) s (c ∷ []) (omega arith) ∙ take_all (length s) s (omega arith))

columns_at : (s : List ℕ) (c : ℕ) → columns_of (s ++ c ∷ []) ≡ c
columns_at s c =
    let one : length (s ++ c ∷ []) ≡ length s + 1 = length-append s (c ∷ []) in
    let prefix : length (s ++ c ∷ []) - 1 ≡ length s = omega arith in
    rw (prefix) (get_or_at s c [] 0 (length s) refl)

-- the width of rows of two and more axes
abbrev wide : List ℕ → ℕ → Items → ℕ
wide outer c items = line_width (widths c (rows (size_of outer) c items))

width_step : (m : ℕ) (s : List ℕ) (items : Items) → 1 ≤ length s → row_width (m ∷ s) items ≡ wide (outer_of (m ∷ s)) (columns_of (m ∷ s)) items
unfolding row_width
width_step m [] items h = absurd (omega arith)
width_step m (n ∷ s) items h = refl

width_of_rows : (m : ℕ) (s : List ℕ) (c : ℕ) (items : Items) → row_width (m ∷ s ++ c ∷ []) items ≡ wide (m ∷ s) c items
width_of_rows m s c items =
    let outer = outer_at (m ∷ s) c in
    let columns = columns_at (m ∷ s) c in
    width_step m (s ++ c ∷ []) items (rw length-append (omega arith)) ∙ ap (λ t. wide t (columns_of (m ∷ s ++ c ∷ [])) items) outer ∙ ap (λ k. wide (m ∷ s) k items) columns

-- two and more axes
pub text_of_rows : (outer : List ℕ) (c : ℕ) (zs : List ℤ) → 1 ≤ length outer → text_of (outer ++ c ∷ []) (Numbers zs) ≡ rows_text outer c (Numbers zs)
unfolding text_of rows_text display
text_of_rows [] c zs h = absurd (omega arith)
text_of_rows (m ∷ s) c zs h =
    let outer = outer_at (m ∷ s) c in
    let width = width_of_rows m s c (Numbers zs) in
    let lines = lines_text 1 m s c zs ∙ ap (λ k. text k c zs) (one-mul (size_of (m ∷ s))) in
    cc

-- a scalar and a vector
pub text_of_scalar : (s : List ℕ) (zs : List ℤ) → s ≡ [] → text_of s (Numbers zs) ≡ line_text (Numbers zs)
unfolding text_of line_text row_width display lines_of
text_of_scalar s zs e = ap (λ t. text_of t (Numbers zs)) e ∙ ap (λ cs. record { shape = length (vector_line (Numbers zs)) ∷ []; items = Characters cs }) (append-nil (vector_line (Numbers zs)))

pub text_of_vector : (s : List ℕ) (n : ℕ) (zs : List ℤ) → s ≡ n ∷ [] → text_of s (Numbers zs) ≡ line_text (Numbers zs)
unfolding text_of line_text row_width display lines_of
text_of_vector s n zs e = ap (λ t. text_of t (Numbers zs)) e ∙ ap (λ cs. record { shape = length (vector_line (Numbers zs)) ∷ []; items = Characters cs }) (append-nil (vector_line (Numbers zs)))
