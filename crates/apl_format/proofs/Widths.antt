-- The widths of columns, one row more and one column more.
use Rattle.std.proofs.Common.{◌≡◌, ℕ, ◌+◌, ◌*◌, ◌<◌, ◌≤◌, List, [], ◌∷◌, ◌++◌, length, get_or, map, take, drop, set, max, replicate, fold, ℤ, pos, refl, sym, ap, ◌∙◌, arith}
use Rattle.std.specs.Simd.Lanes.{zip2}
use Rattle.std.proofs.lemmas.List.{append_assoc, map_push, length-map, get_or-map, append-nil, take_all, drop_all, drop_more, take_more, set_at, get_or_at, length-take-le}
use Rattle.std.proofs.lemmas.Simd.{length-zip2, get_or-zip2}
use Rattle.apl_arrays.specs.Cells.{Items}
use Rattle.apl_format.specs.Display.{item_widths, rows, widths, first_of_ravel, dropped}
use Rattle.apl_format.proofs.Rows.{rows_more, rows_none}

fold_push : {A B : Type 0} (f : B → A → B) (b : B) (xs : List A) (x : A) → fold f b (xs ++ x ∷ []) ≡ f (fold f b xs) x
fold_push f b [] x = refl
fold_push f b (w ∷ ws) x = fold_push f (f b w) ws x

-- of no rows
pub widths_none : (c : ℕ) (items : Items) → widths c (rows 0 c items) ≡ replicate c 0
unfolding widths
widths_none c items = rw rows_none refl

-- of one row more
pub widths_more : (k c : ℕ) (items : Items) → widths c (rows (k + 1) c items) ≡ zip2 max (widths c (rows k c items)) (item_widths (first_of_ravel c (dropped (k * c) items)))
unfolding widths
widths_more k c items =
    rw (rows_more k c items, map_push item_widths (rows k c items) (first_of_ravel c (dropped (k * c) items)))
    (fold_push (zip2 max) (replicate c 0) (map item_widths (rows k c items)) (item_widths (first_of_ravel c (dropped (k * c) items))))

-- in a list that is new before a place, the element there is the old one
pub old_at : (ts xs : List ℕ) (i d : ℕ) → i < length ts → length ts ≡ length xs → get_or (take i ts ++ drop i xs) i d ≡ get_or xs i d
old_at ts xs i d h e = rw (drop_more xs i d (omega arith)) (get_or_at (take i ts) (get_or xs i d) (drop (i + 1) xs) d i (length-take-le i ts (omega arith)))

-- and a write there moves the place on
pub new_at : (ts xs : List ℕ) (i y : ℕ) → i < length ts → length ts ≡ length xs → y ≡ get_or ts i 0 → set (take i ts ++ drop i xs) i y ≡ take (i + 1) ts ++ drop (i + 1) xs
new_at ts xs i y h l e =
    rw (drop_more xs i 0 (omega arith), take_more ts i 0 h, ← e)
    (set_at (take i ts) (get_or xs i 0) (drop (i + 1) xs) y i (length-take-le i ts (omega arith)) ∙ sym (append_assoc (take i ts) (y ∷ []) (drop (i + 1) xs)))

-- one column more
pub widen_more : (w : ℤ → ℕ) (xs : List ℕ) (zs : List ℤ) (i y : ℕ) {ws : List ℕ} → length xs ≡ length zs → i < length zs →
    ws ≡ take i (zip2 max xs (map w zs)) ++ drop i xs → y ≡ max (get_or ws i 0) (w (get_or zs i (pos 0))) →
    set ws i y ≡ take (i + 1) (zip2 max xs (map w zs)) ++ drop (i + 1) xs
widen_more w xs zs i y l h e made =
    let m = length-map zs w in
    let t : length (zip2 max xs (map w zs)) ≡ length xs = length-zip2 max xs (map w zs) (omega arith) in
    let here : get_or (zip2 max xs (map w zs)) i 0 ≡ max (get_or xs i 0) (w (get_or zs i (pos 0))) =
    get_or-zip2 max xs (map w zs) i 0 0 0 (omega arith) (omega arith) ∙ ap (λ n. max (get_or xs i 0) n) (get_or-map w zs i (pos 0) 0 h) in
    let old = ap (λ vs. get_or vs i 0) e ∙ old_at (zip2 max xs (map w zs)) xs i 0 (omega arith) t in
    ap (λ vs. set vs i y) e ∙ new_at (zip2 max xs (map w zs)) xs i y (omega arith) t (made ∙ ap (λ n. max n (w (get_or zs i (pos 0)))) old ∙ sym here)

-- all columns
pub widen_all : (w : ℤ → ℕ) (xs : List ℕ) (zs : List ℤ) (i : ℕ) {ws : List ℕ} → length xs ≡ length zs → length zs ≤ i →
    ws ≡ take i (zip2 max xs (map w zs)) ++ drop i xs → ws ≡ zip2 max xs (map w zs)
widen_all w xs zs i l h e =
    let m = length-map zs w in
    let t : length (zip2 max xs (map w zs)) ≡ length xs = length-zip2 max xs (map w zs) (omega arith) in
    e ∙ ap (λ ys. ys ++ drop i xs) (take_all i (zip2 max xs (map w zs)) (omega arith)) ∙ ap (λ ys. zip2 max xs (map w zs) ++ ys) (drop_all i xs (omega arith)) ∙ append-nil (zip2 max xs (map w zs))

-- a list that was written from its start to its end
pub written_whole : (n : ℕ) (xs ys : List ℕ) → length xs ≡ n → length ys ≡ n → take n (xs ++ drop (length xs) ys) ≡ xs
written_whole n xs ys e f =
    ap (λ zs. take n (xs ++ zs)) (drop_all (length xs) ys (omega arith)) ∙ ap (λ zs. take n zs) (append-nil xs) ∙ take_all n xs (omega arith)
