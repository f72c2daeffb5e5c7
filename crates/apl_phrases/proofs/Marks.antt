-- Marks of lines, as numbers set them, and the lines that are marked.
use Rattle.std.proofs.Common.{◌≡◌, ℕ, zero, suc, ◌+◌, ◌<◌, ◌≤◌, ℤ, pos, negsuc, ◌<ℤ◌, Bool, true, false, ◌||◌, cond, List, [], ◌∷◌, ◌++◌, length, map, take, drop, set, replicate, get_or, filter, refl, sym, ap, ◌∙◌, arith}
use Rattle.std.specs.List.{list_any}
use Rattle.std.specs.Ordering.{int_eq}
use Rattle.std.proofs.lemmas.Bool.{false_from_ne_true}
use Rattle.std.proofs.lemmas.Bool.Decides.{Decides-int_eq}
use Rattle.std.proofs.lemmas.Int.{ints}
use Rattle.std.proofs.lemmas.List.{append-nil, drop_all, set_past, take_all}
use Rattle.std.proofs.lemmas.List.Folds.{list_any_more}
use Rattle.apl_defn.specs.Definitions.{Text}
use Rattle.apl_machine_state.specs.Watching.{numbered}
use Rattle.apl_phrases.specs.inside.Marks.{marked, marked_lines, marks_of}

-- ---- one number

apart : (y z : ℤ) → (y ≡ z → ⊥) → int_eq y z ≡ false
apart y z h = false_from_ne_true (int_eq y z) (λ t. h ((Decides-int_eq y z).0 t))

or_false : (b : Bool) → (b || false) ≡ b
or_false true = refl
or_false false = refl

or_true : (b : Bool) → (b || true) ≡ true
or_true true = refl
or_true false = refl

-- a number below the first line marks none
unmarked : (z : ℤ) (n : ℕ) (ms : List Bool) → z <ℤ pos n → marked z n ms ≡ ms
unmarked z n [] h = refl
unmarked z n (m ∷ ms) h =
    let other : z ≡ pos n → ⊥ = λ e. omega (arith, ints) in
    let later : z <ℤ pos (suc n) = omega (arith, ints) in
    ap (λ t. (m || t) ∷ marked z (suc n) ms) (apart z (pos n) other) ∙ ap (λ t. t ∷ marked z (suc n) ms) (or_false m) ∙ ap (λ t. m ∷ t) (unmarked z (suc n) ms later)

-- one from there on marks its line
marked_at : (n i : ℕ) (ms : List Bool) → marked (pos (n + i)) n ms ≡ set ms i true
marked_at n i [] = refl
marked_at n zero (m ∷ ms) =
    let same : pos (n + 0) ≡ pos n = ap pos (omega arith) in
    let later : pos (n + 0) <ℤ pos (suc n) = omega (arith, ints) in
    ap (λ t. (m || t) ∷ marked (pos (n + 0)) (suc n) ms) ((Decides-int_eq (pos (n + 0)) (pos n)).1 same) ∙ ap (λ t. t ∷ marked (pos (n + 0)) (suc n) ms) (or_true m) ∙ ap (λ t. true ∷ t) (unmarked (pos (n + 0)) (suc n) ms later)
marked_at n (suc i) (m ∷ ms) =
    let other : pos (n + suc i) ≡ pos n → ⊥ = λ e. omega (arith, ints) in
    let moved : n + suc i ≡ suc n + i = omega arith in
    ap (λ t. (m || t) ∷ marked (pos (n + suc i)) (suc n) ms) (apart (pos (n + suc i)) (pos n) other) ∙ ap (λ t. t ∷ marked (pos (n + suc i)) (suc n) ms) (or_false m) ∙ ap (λ t. m ∷ t) (ap (λ k. marked (pos k) (suc n) ms) moved ∙ marked_at (suc n) i ms)

pub none_marked : (z : ℤ) (ms : List Bool) → z <ℤ pos 1 → ms ≡ marked z 1 ms
none_marked z ms h = sym (unmarked z 1 ms h)

pub one_marked : (z : ℤ) (i : ℕ) (ms : List Bool) → z ≡ pos (1 + i) → set ms i true ≡ marked z 1 ms
one_marked z i ms e = sym (ap (λ t. marked t 1 ms) e ∙ marked_at 1 i ms)

-- one past the last line marks none
pub past_marked : (z : ℤ) (ms : List Bool) → pos (length ms) <ℤ z → ms ≡ marked z 1 ms
past_marked (pos zero) ms h = absurd (omega (arith, ints))
past_marked (pos (suc i)) ms h =
    let later : length ms ≤ i = omega (arith, ints) in
    sym (set_past ms i true later) ∙ one_marked (pos (suc i)) i ms (ap pos (omega arith))
past_marked (negsuc i) ms h = absurd (omega (arith, ints))

-- ---- all numbers

length-marked : (z : ℤ) (n : ℕ) (ms : List Bool) → length (marked z n ms) ≡ length ms
length-marked z n [] = refl
length-marked z n (m ∷ ms) = ap suc (length-marked z (suc n) ms)

-- what is written back of a slice that is marked
pub written : (z : ℤ) (ms new : List Bool) (len : ℕ) → new ≡ marked z 1 ms → len ≡ length ms → take len (new ++ drop (length new) ms) ≡ marked z 1 ms
written z ms new len e l =
    let whole : length new ≡ length ms = ap length e ∙ length-marked z 1 ms in
    ap (λ x. take len (new ++ x)) (drop_all (length new) ms (omega arith)) ∙ ap (take len) (append-nil new) ∙ take_all len new (omega arith) ∙ e

pub none_of : (n : ℕ) (lines : List Text) → replicate (length lines) false ≡ marks_of [] n lines
none_of n [] = refl
none_of n (line ∷ lines) = ap (λ t. false ∷ t) (none_of (suc n) lines)

pub one_more_of : (zs : List ℤ) (i : ℕ) (d : ℤ) (n : ℕ) (lines : List Text) → i < length zs → marked (get_or zs i d) n (marks_of (take i zs) n lines) ≡ marks_of (take (i + 1) zs) n lines
one_more_of zs i d n [] h = refl
one_more_of zs i d n (line ∷ lines) h =
    ap (λ t. t ∷ marked (get_or zs i d) (suc n) (marks_of (take i zs) (suc n) lines)) (sym (list_any_more (λ z. int_eq z (pos n)) zs i d h)) ∙ ap (λ t. list_any (λ z. int_eq z (pos n)) (take (i + 1) zs) ∷ t) (one_more_of zs i d (suc n) lines h)

-- ---- the marked lines

pub lines_of : (f : ℕ → Bool) (n : ℕ) (lines : List Text) → marked_lines n (map f (numbered n lines)) ≡ filter f (numbered n lines)
lines_of f n [] = refl
lines_of f n (line ∷ lines) = ap (λ t. cond (f n) (n ∷ t) t) (lines_of f (suc n) lines)

pub length-marked_lines : (n : ℕ) (ms : List Bool) → length (marked_lines n ms) ≤ length ms
length-marked_lines n [] = omega arith
length-marked_lines n (true ∷ ms) = omega (arith, length-marked_lines (suc n) ms)
length-marked_lines n (false ∷ ms) = omega (arith, length-marked_lines (suc n) ms)
