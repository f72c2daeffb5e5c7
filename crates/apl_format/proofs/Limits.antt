-- Characters within the limit on elements, and over it.
use Rattle.std.proofs.Common.{◌≡◌, ℕ, ◌+◌, ◌*◌, ◌-◌, ◌<◌, ◌≤◌, ℤ, List, [], ◌∷◌, ◌++◌, length, map, max, Ok, Err, refl, sym, ap, ◌∙◌, arith}
use Rattle.std.specs.List.{flat_map, sum, sum_by}
use Rattle.std.proofs.lemmas.Bool.{lt-ltb, le-ltb}
use Rattle.std.proofs.lemmas.List.{length-map}
use Rattle.std.proofs.lemmas.List.Sums.{sum-map}
use Rattle.apl_faults.specs.declared.fault.Fault.TheVariants.{Limit}
use Rattle.apl_arrays.specs.Index.{size_of, bound_of}
use Rattle.apl_arrays.specs.Cells.{Arr, Numbers, Characters}
use Rattle.apl_arrays.proofs.Places.{bound_of-pos, size_le_bound, mul_low}
use Rattle.apl_format.specs.Display.{number_text, vector_line, row_line, rows, widths}
use Rattle.apl_format.specs.Formatted.{formatted, in_limits, line_width, text_of}
use Rattle.apl_format.specs.inside.Parts.{line_text, rows_text}
use Rattle.apl_format.proofs.Lengths.{length_joined, length_rows}
use Rattle.apl_format.proofs.Sizes.{bound_append, size_append, times}

pub over_limits : (a : Arr) → 1000000 < bound_of a.shape → in_limits a ≡ Err Limit
over_limits a h = rw (lt-ltb 1000000 (bound_of a.shape) h) refl

pub within_limits : (a : Arr) → bound_of a.shape ≤ 1000000 → in_limits a ≡ Ok a
within_limits a h = rw (le-ltb 1000000 (bound_of a.shape) h) refl

-- characters stay
pub characters_stay : (a : Arr) (cs : List ℕ) → a.items ≡ Characters cs → bound_of a.shape ≤ 1000000 → formatted a ≡ Ok a
unfolding text_of
characters_stay a cs e h =
    ap (λ x. in_limits (text_of a.shape x)) e ∙ within_limits (record { shape = a.shape; items = Characters cs }) h ∙ ap (λ x. Ok (record { shape = a.shape; items = x })) (sym e)

-- one axis more
pub size_more : (s : List ℕ) (n : ℕ) → size_of (s ++ n ∷ []) ≡ size_of s * n
size_more s n = rw (size_append s (n ∷ [])) (omega arith)

pub outer_within : (s : List ℕ) (n : ℕ) → bound_of (s ++ n ∷ []) ≤ 1000000 → bound_of s ≤ 1000000
outer_within s n h =
    let e : bound_of s * bound_of (n ∷ []) ≤ 1000000 = rw bound_append at h in
    omega (arith, e, mul_low (bound_of s) (bound_of (n ∷ [])) (bound_of-pos (n ∷ [])))

pub last_le_bound : (s : List ℕ) (n : ℕ) → n ≤ bound_of (s ++ n ∷ [])
last_le_bound s n =
    let e : bound_of (s ++ n ∷ []) ≡ bound_of s * (max n 1 * 1) = bound_append s (n ∷ []) in
    let f : 1 * (max n 1 * 1) ≤ bound_of s * (max n 1 * 1) = times 1 (max n 1 * 1) (bound_of s) (max n 1 * 1) (bound_of-pos s) (omega arith) in
    omega arith

pub product_fits : (a b : ℕ) → a ≤ 1000000 → b ≤ 1000000 → a * b ≤ 1000000000000
product_fits a b h k = let e : a * b ≤ 1000000 * 1000000 = times a b 1000000 1000000 h k in omega arith

-- the line of numbers
text_widths : (zs : List ℤ) → map (λ y. length y) (map number_text zs) ≡ map (λ z. length (number_text z)) zs
text_widths [] = refl
text_widths (z ∷ zs) = ap (λ ns. length (number_text z) ∷ ns) (text_widths zs)

pub length_line : (zs : List ℤ) → length (vector_line (Numbers zs)) ≡ line_width (map (λ z. length (number_text z)) zs)
unfolding vector_line
length_line zs =
    let texts = map number_text zs in
    let total : sum_by (λ y. length y) texts ≡ sum (map (λ z. length (number_text z)) zs) = sym (sum-map (λ y. length y) texts) ∙ ap sum (text_widths zs) in
    let count : length texts ≡ length (map (λ z. length (number_text z)) zs) = length-map zs number_text ∙ sym (length-map zs (λ z. length (number_text z))) in
    length_joined 32 texts ∙ (rw (total, count) refl)

pub line_over : (zs : List ℤ) → 1000000 < line_width (map (λ z. length (number_text z)) zs) → in_limits (line_text (Numbers zs)) ≡ Err Limit
unfolding line_text
line_over zs h =
    let e = length_line zs in
    let over : 1000000 < max (length (vector_line (Numbers zs))) 1 * 1 = omega arith in
    over_limits (record { shape = length (vector_line (Numbers zs)) ∷ []; items = Characters (vector_line (Numbers zs)) }) over

pub line_made : (zs : List ℤ) {cs : List ℕ} {n : ℕ} → n ≡ line_width (map (λ z. length (number_text z)) zs) → cs ≡ vector_line (Numbers zs) →
    in_limits (line_text (Numbers zs)) ≡ in_limits (record { shape = n ∷ []; items = Characters cs })
unfolding line_text
line_made zs e f =
    let line = length_line zs in
    cc

-- the widths of the columns of rows
abbrev pub widths_in : List ℕ → ℕ → List ℤ → List ℕ
widths_in outer c zs = widths c (rows (size_of outer) c (Numbers zs))

-- what the code made of rows
pub record Made (outer : List ℕ) (c : ℕ) (zs : List ℤ) (w : ℕ) (cs : List ℕ) : Type 0 where
  pub width : w ≡ line_width (widths_in outer c zs)
  pub text : cs ≡ flat_map (row_line (widths_in outer c zs)) (rows (size_of outer) c (Numbers zs))

pub rows_over_width : (outer : List ℕ) (c : ℕ) (zs ws : _) → ws ≡ widths_in outer c zs → 1000000 < line_width ws → in_limits (rows_text outer c (Numbers zs)) ≡ Err Limit
unfolding rows_text
rows_over_width outer c zs ws e h =
    let w : line_width ws ≡ line_width (widths_in outer c zs) = ap line_width e in
    over_limits _ (omega (arith, last_le_bound outer (line_width (widths_in outer c zs))))

pub rows_over : (outer : List ℕ) (c : ℕ) (zs : List ℤ) (k w : ℕ) → k ≡ size_of outer → w ≡ line_width (widths_in outer c zs) → 1000000 < k * w → in_limits (rows_text outer c (Numbers zs)) ≡ Err Limit
unfolding rows_text
rows_over outer c zs k w e f h =
    let p : k * w ≡ size_of outer * line_width (widths_in outer c zs) = rw (e, f) refl in
    let s = size_more outer (line_width (widths_in outer c zs)) in
    over_limits _ (omega (arith, size_le_bound (outer ++ line_width (widths_in outer c zs) ∷ [])))

pub rows_made : (outer : List ℕ) (c : ℕ) (zs : List ℤ) {w : ℕ} {cs : List ℕ} → Made outer c zs w cs → in_limits (rows_text outer c (Numbers zs)) ≡ in_limits (record { shape = outer ++ w ∷ []; items = Characters cs })
unfolding rows_text
rows_made outer c zs m =
    let width = m.width in
    let text = m.text in
    cc

pub rows_full : (outer : List ℕ) (c : ℕ) (zs : List ℤ) {w : ℕ} {cs : List ℕ} → Made outer c zs w cs → length cs ≡ size_of (outer ++ w ∷ [])
unfolding widths
rows_full outer c zs {w = w} m =
    let ws = widths_in outer c zs in
    ap length m.text ∙ length_rows (size_of outer) c zs _ ws refl ∙ ap (λ n. size_of outer * n) (sym m.width) ∙ sym (size_more outer w)

same_text : {us vs : List ℕ} {k n c d : ℕ} (zs : List ℤ) → us ≡ vs → k ≡ n → c ≡ d → flat_map (row_line us) (rows k c (Numbers zs)) ≡ flat_map (row_line vs) (rows n d (Numbers zs))
same_text zs e f g = cc

-- the same by the steps of the code
pub made : (outer : List ℕ) (c : ℕ) (zs : List ℤ) {k w : ℕ} {us vs ws old cs : List ℕ} → k ≡ size_of outer → ws ≡ widths c (rows k c (Numbers zs)) → length ws ≡ c →
    us ≡ ws → w ≡ line_width us → vs ≡ ws → old ≡ [] → cs ≡ old ++ flat_map (row_line vs) (rows k (length vs) (Numbers zs)) → Made outer c zs w cs
made outer c zs {k = k} {vs = vs} count widest wide first width second none text =
    let all = widest ∙ ap (λ n. widths c (rows n c (Numbers zs))) count in
    record {
      width = width ∙ ap line_width (first ∙ all);
      text = text ∙ ap (λ t. t ++ flat_map (row_line vs) (rows k (length vs) (Numbers zs))) none ∙ same_text zs (second ∙ all) count (ap length second ∙ wide);
    }
