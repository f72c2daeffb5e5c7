-- Rows and planes, one more at their end.
use Rattle.std.proofs.Common.{◌≡◌, ℕ, zero, suc, ◌+◌, ◌*◌, List, [], ◌∷◌, ◌++◌, length, map, take, drop, refl, sym, ap, subst, ◌∙◌, arith, add-one, eq-eqb, zero-mul, zero-add, suc-add}
use Rattle.std.specs.List.{flat_map}
use Rattle.std.proofs.lemmas.List.{drop-drop, append_assoc, map_push, length-map, flat_map_more}
use Rattle.std.proofs.lemmas.Bool.{ne_eqb}
use Rattle.apl_arrays.specs.Cells.{Items, Numbers, Characters}
use Rattle.apl_format.specs.Display.{first_of_ravel, dropped, rows, planes, row_line, widths, joined, matrix_lines}
use Rattle.apl_format.specs.inside.Parts.{before, AreWidths}
use Rattle.apl_format.proofs.Joined.{joined_push}

pub dropped_dropped : (m n : ℕ) (items : Items) → dropped m (dropped n items) ≡ dropped (n + m) items
dropped_dropped m n (Numbers zs) = ap Numbers (drop-drop m n zs)
dropped_dropped m n (Characters cs) = ap Characters (drop-drop m n cs)

dropped_none : (items : Items) → dropped 0 items ≡ items
dropped_none (Numbers zs) = refl
dropped_none (Characters cs) = refl

-- after a row and k more
dropped_rows : (k c : ℕ) (items : Items) → dropped (k * c) (dropped c items) ≡ dropped (suc k * c) items
dropped_rows k c items = dropped_dropped (k * c) c items ∙ ap (λ n. dropped n items) (omega arith)

rows_suc : (k c : ℕ) (items : Items) → rows (suc k) c items ≡ rows k c items ++ first_of_ravel c (dropped (k * c) items) ∷ []
unfolding rows
rows_suc zero c items = ap (λ x. first_of_ravel c x ∷ []) (sym (ap (λ n. dropped n items) (zero-mul c) ∙ dropped_none items))
rows_suc (suc k) c items = ap (λ xs. first_of_ravel c items ∷ xs) (rows_suc k c (dropped c items) ∙ ap (λ x. rows k c (dropped c items) ++ first_of_ravel c x ∷ []) (dropped_rows k c items))

pub rows_more : (k c : ℕ) (items : Items) → rows (k + 1) c items ≡ rows k c items ++ first_of_ravel c (dropped (k * c) items) ∷ []
rows_more k c items = rw add-one (rows_suc k c items)

-- the items of one row more, end to end
pub rows_step : (f : Items → List ℕ) (k c : ℕ) (items : Items) (start : List ℕ) {line a b : List ℕ} → a ≡ start ++ flat_map f (rows k c items) →
    line ≡ f (first_of_ravel c (dropped (k * c) items)) → b ≡ a ++ line → b ≡ start ++ flat_map f (rows (k + 1) c items)
rows_step f k c items start {line = line} e made g =
    g ∙ ap (λ t. t ++ line) e ∙ ap (λ t. (start ++ flat_map f (rows k c items)) ++ t) made
    ∙ flat_map_more f start (rows k c items) (first_of_ravel c (dropped (k * c) items)) ∙ ap (λ xs. start ++ flat_map f xs) (sym (rows_more k c items))

pub rows_append : (a b c : ℕ) (items : Items) → rows (a + b) c items ≡ rows a c items ++ rows b c (dropped (a * c) items)
unfolding rows
rows_append zero b c items =
    ap (λ k. rows k c items) (zero-add b) ∙ sym (ap (λ x. rows b c x) (ap (λ n. dropped n items) (zero-mul c) ∙ dropped_none items))
rows_append (suc a) b c items =
    ap (λ k. rows k c items) (suc-add a b) ∙ ap (λ xs. first_of_ravel c items ∷ xs) (rows_append a b c (dropped c items) ∙ ap (λ x. rows a c (dropped c items) ++ rows b c x) (dropped_rows a c items))

planes_suc : (k h c : ℕ) (items : Items) → planes (suc k) h c items ≡ planes k h c items ++ rows h c (dropped (k * (h * c)) items) ∷ []
unfolding planes
planes_suc zero h c items = ap (λ x. rows h c x ∷ []) (sym (ap (λ n. dropped n items) (zero-mul (h * c)) ∙ dropped_none items))
planes_suc (suc k) h c items = ap (λ xs. rows h c items ∷ xs) (planes_suc k h c (dropped (h * c) items) ∙ ap (λ x. planes k h c (dropped (h * c) items) ++ rows h c x ∷ []) (dropped_rows k (h * c) items))

pub planes_more : (k h c : ℕ) (items : Items) → planes (k + 1) h c items ≡ planes k h c items ++ rows h c (dropped (k * (h * c)) items) ∷ []
planes_more k h c items = rw add-one (planes_suc k h c items)

pub rows_none : (c : ℕ) (items : Items) → rows 0 c items ≡ []
unfolding rows
rows_none c items = refl

pub planes_none : (h c : ℕ) (items : Items) → planes 0 h c items ≡ []
unfolding planes
planes_none h c items = refl

pub length-planes : (k h c : ℕ) (items : Items) → length (planes k h c items) ≡ k
unfolding planes
length-planes zero h c items = refl
length-planes (suc k) h c items = ap suc (length-planes k h c (dropped (h * c) items))

-- the lines of one row more
pub plane_step : (f : Items → List ℕ) (k c p : ℕ) (items : Items) (start : List (List ℕ)) {from : ℕ} {line : List ℕ} {a b : List (List ℕ)} → from ≡ p + k * c →
    a ≡ start ++ map f (rows k c (dropped p items)) → line ≡ f (first_of_ravel c (dropped from items)) → b ≡ a ++ line ∷ [] →
    b ≡ start ++ map f (rows (k + 1) c (dropped p items))
plane_step f k c p items start {line = line} here e made g =
    let row = made ∙ ap (λ n. f (first_of_ravel c (dropped n items))) here ∙ ap (λ xs. f (first_of_ravel c xs)) (sym (dropped_dropped (k * c) p items)) in
    let more = ap (map f) (rows_more k c (dropped p items)) ∙ map_push f (rows k c (dropped p items)) (first_of_ravel c (dropped (k * c) (dropped p items))) in
    g ∙ ap (λ xs. xs ++ line ∷ []) e ∙ append_assoc start (map f (rows k c (dropped p items))) (line ∷ []) ∙ ap (λ x. start ++ (map f (rows k c (dropped p items)) ++ x ∷ [])) row ∙ ap (λ xs. start ++ xs) (sym more)

-- the lines of one plane more
pub planes_step : (f : Items → List ℕ) (k h c : ℕ) (items : Items) {from : ℕ} {a b d : List (List ℕ)} → from ≡ k * (h * c) →
    a ≡ joined [] (map (map f) (planes k h c items)) → b ≡ a ++ before [] k → d ≡ b ++ map f (rows h c (dropped from items)) →
    d ≡ joined [] (map (map f) (planes (k + 1) h c items))
planes_step f k h c items {b = b} here e g made =
    let last = map f (rows h c (dropped (k * (h * c)) items)) in
    let so_far = map (map f) (planes k h c items) in
    let more = ap (map (map f)) (planes_more k h c items) ∙ map_push (map f) (planes k h c items) (rows h c (dropped (k * (h * c)) items)) in
    let count : length so_far ≡ k = length-map (planes k h c items) (map f) ∙ length-planes k h c items in
    let push : joined [] (so_far ++ last ∷ []) ≡ joined [] so_far ++ (before [] k ++ last) =
    subst (λ n. joined [] (so_far ++ last ∷ []) ≡ joined [] so_far ++ (before [] n ++ last)) count (joined_push [] so_far last) in
    made ∙ ap (λ n. b ++ map f (rows h c (dropped n items))) here ∙ ap (λ xs. xs ++ last) (g ∙ ap (λ xs. xs ++ before [] k) e)
    ∙ append_assoc (joined [] so_far) (before [] k) last ∙ sym (ap (joined []) more ∙ push)

-- characters have no need of widths
rows_of_characters : (us ws : List ℕ) (k c : ℕ) (cs : List ℕ) → map (row_line us) (rows k c (Characters cs)) ≡ map (row_line ws) (rows k c (Characters cs))
unfolding rows row_line
rows_of_characters us ws zero c cs = refl
rows_of_characters us ws (suc k) c cs = ap (λ xs. take c cs ∷ xs) (rows_of_characters us ws k c (drop c cs))

planes_of_characters : (us ws : List ℕ) (k h c : ℕ) (cs : List ℕ) → map (map (row_line us)) (planes k h c (Characters cs)) ≡ map (map (row_line ws)) (planes k h c (Characters cs))
unfolding planes
planes_of_characters us ws zero h c cs = refl
planes_of_characters us ws (suc k) h c cs =
    let first = rows_of_characters us ws h c cs in
    let others = planes_of_characters us ws k h c (drop (h * c) cs) in
    cc

pub lines_by_widths : (ws : List ℕ) (n k h c : ℕ) (items : Items) → AreWidths n c items ws →
    map (map (row_line ws)) (planes k h c items) ≡ map (map (row_line (widths c (rows n c items)))) (planes k h c items)
lines_by_widths ws n k h c (Numbers zs) e = ap (λ us. map (map (row_line us)) (planes k h c (Numbers zs))) e
lines_by_widths ws n k h c (Characters cs) e = planes_of_characters ws (widths c (rows n c (Characters cs))) k h c cs

-- without rows
pub matrix_none : (n h c : ℕ) (items : Items) → h ≡ 0 → matrix_lines n h c items ≡ []
unfolding matrix_lines
matrix_none n h c items e = rw (eq-eqb h 0 e) refl

-- with rows, by the widths that were made
pub matrix_by_widths : (n h c : ℕ) (items : Items) (ws : List ℕ) → (h ≡ 0 → ⊥) → AreWidths (n * h) c items ws →
    joined [] (map (map (row_line ws)) (planes n h c items)) ≡ matrix_lines n h c items
unfolding matrix_lines
matrix_by_widths n h c items ws some e = rw (ne_eqb h 0 some) (ap (joined []) (lines_by_widths ws (n * h) n h c items e))
