-- How long lines are, and rows end to end.
use Rattle.std.proofs.Common.{◌≡◌, ℕ, zero, suc, ◌+◌, ◌*◌, ◌-◌, ℤ, List, [], ◌∷◌, length, map, take, drop, max, fold, refl, sym, ap, ◌∙◌, arith, zero-mul}
use Rattle.std.specs.List.{flat_map, sum, sum_by}
use Rattle.std.specs.Simd.Lanes.{zip2}
use Rattle.std.proofs.lemmas.List.{length-append, length-map, length-replicate}
use Rattle.std.proofs.lemmas.List.Concat.{length-flat_map}
use Rattle.std.proofs.lemmas.List.Sums.{sum_by-cons, sum-map}
use Rattle.apl_arrays.specs.Cells.{Numbers}
use Rattle.apl_format.specs.Display.{number_text, joined, padded, row_line, rows, item_widths}
use Rattle.apl_format.specs.Formatted.{line_width}

-- an item more before each list
sum_by_suc : {A : Type 0} (xs : List (List A)) → sum_by (λ y. suc (length y)) xs ≡ sum_by (λ y. length y) xs + length xs
sum_by_suc [] = refl
sum_by_suc (x ∷ xs) = rw (sum_by-cons (λ y. suc (length y)) x xs, sum_by-cons (λ y. length y) x xs, sum_by_suc xs) (omega arith)

pub length_joined : {A : Type 0} (s : A) (xs : List (List A)) → length (joined s xs) ≡ sum_by (λ y. length y) xs + (length xs - 1)
unfolding joined
length_joined s [] = refl
length_joined s (x ∷ xs) =
    let others : length (flat_map (λ y. s ∷ y) xs) ≡ sum_by (λ y. length y) xs + length xs = length-flat_map (λ y. s ∷ y) xs ∙ sum_by_suc xs in
    let all = length-append x (flat_map (λ y. s ∷ y) xs) in
    let first = sum_by-cons (λ y. length y) x xs in
    omega arith

length_padded : (w : ℕ) (t : List ℕ) → length (padded w t) ≡ max w (length t)
unfolding padded
length_padded w t = rw (length-append, length-replicate) (omega arith)

lengths_padded : (ws : List ℕ) (zs : List ℤ) → map (λ y. length y) (zip2 padded ws (map number_text zs)) ≡ zip2 max ws (map (λ z. length (number_text z)) zs)
lengths_padded [] zs = refl
lengths_padded (w ∷ ws) [] = refl
lengths_padded (w ∷ ws) (z ∷ zs) =
    let first = length_padded w (number_text z) in
    let others = lengths_padded ws zs in
    cc

-- a row that is nowhere wider than its columns
pub length_row : (ws : List ℕ) (zs : List ℤ) → zip2 max ws (map (λ z. length (number_text z)) zs) ≡ ws → length (row_line ws (Numbers zs)) ≡ line_width ws
unfolding row_line
length_row ws zs e =
    let xs = zip2 padded ws (map number_text zs) in
    let same : map (λ y. length y) xs ≡ ws = lengths_padded ws zs ∙ e in
    let total : sum_by (λ y. length y) xs ≡ sum ws = sym (sum-map (λ y. length y) xs) ∙ ap sum same in
    let count : length xs ≡ length ws = sym (length-map xs (λ y. length y)) ∙ ap length same in
    length_joined 32 xs ∙ (rw (total, count) refl)

-- what is nowhere wider than the wider of two is nowhere wider than either
first_within : (ws bs xs : List ℕ) → zip2 max ws (zip2 max bs xs) ≡ ws → zip2 max ws bs ≡ ws
first_within [] bs xs e = refl
first_within (w ∷ ws) [] xs e = absurd (cc)
first_within (w ∷ ws) (b ∷ bs) [] e = absurd (cc)
first_within (w ∷ ws) (b ∷ bs) (x ∷ xs) e =
    let here : max w (max b x) ≡ w = cc in
    let there : zip2 max ws (zip2 max bs xs) ≡ ws = cc in
    let others = first_within ws bs xs there in
    let one : max w b ≡ w = omega arith in
    cc

second_within : (ws bs xs : List ℕ) → zip2 max ws (zip2 max bs xs) ≡ ws → zip2 max ws xs ≡ ws
second_within [] bs xs e = refl
second_within (w ∷ ws) [] xs e = absurd (cc)
second_within (w ∷ ws) (b ∷ bs) [] e = absurd (cc)
second_within (w ∷ ws) (b ∷ bs) (x ∷ xs) e =
    let here : max w (max b x) ≡ w = cc in
    let there : zip2 max ws (zip2 max bs xs) ≡ ws = cc in
    let others = second_within ws bs xs there in
    let one : max w x ≡ w = omega arith in
    cc

itself_within : (bs : List ℕ) → zip2 max bs bs ≡ bs
itself_within [] = refl
itself_within (b ∷ bs) =
    let one : max b b ≡ b = omega arith in
    let others = itself_within bs in
    cc

-- the widest of lists is nowhere narrower than the one it begins with
start_within : (b : List ℕ) (xs : List (List ℕ)) → zip2 max (fold (zip2 max) b xs) b ≡ fold (zip2 max) b xs
start_within b [] = itself_within b
start_within b (x ∷ xs) = first_within (fold (zip2 max) (zip2 max b x) xs) b x (start_within (zip2 max b x) xs)

-- so many rows end to end, in columns that are as wide as the widest of them
pub length_rows : (k c : ℕ) (zs : List ℤ) (b ws : List ℕ) → ws ≡ fold (zip2 max) b (map item_widths (rows k c (Numbers zs))) →
    length (flat_map (row_line ws) (rows k c (Numbers zs))) ≡ k * line_width ws
unfolding rows
length_rows zero c zs b ws e = sym (zero-mul (line_width ws))
length_rows (suc k) c zs b ws e =
    let row = map (λ z. length (number_text z)) (take c zs) in
    let later = map item_widths (rows k c (Numbers (drop c zs))) in
    let fits = second_within (fold (zip2 max) (zip2 max b row) later) b row (start_within (zip2 max b row) later) in
    let one : length (row_line ws (Numbers (take c zs))) ≡ line_width ws = length_row ws (take c zs) (ap (λ vs. zip2 max vs row) e ∙ fits ∙ sym e) in
    let others : length (flat_map (row_line ws) (rows k c (Numbers (drop c zs)))) ≡ k * line_width ws = length_rows k c (drop c zs) (zip2 max b row) ws e in
    let all = length-append (row_line ws (Numbers (take c zs))) (flat_map (row_line ws) (rows k c (Numbers (drop c zs)))) in
    omega arith
