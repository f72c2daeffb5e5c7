-- Lists joined with an item between any two.
use Rattle.std.proofs.Common.{◌≡◌, ℕ, suc, ◌+◌, ◌<◌, ◌≤◌, List, [], ◌∷◌, ◌++◌, length, get_or, take, refl, sym, ap, subst, ◌∙◌, arith}
use Rattle.std.specs.List.{flat_map}
use Rattle.std.proofs.Math.Dec.{eqb-suc-zero}
use Rattle.std.proofs.lemmas.List.{append-nil, append_assoc, take_more, length-take-le, take_all}
use Rattle.std.proofs.lemmas.List.Concat.{flat_map-append}
use Rattle.apl_format.specs.Display.{joined}
use Rattle.apl_format.specs.inside.Parts.{before}

before_suc : {A : Type 0} (s : A) (n : ℕ) → before s (suc n) ≡ s ∷ []
before_suc s n = rw (eqb-suc-zero n) refl

-- one more list
pub joined_push : {A : Type 0} (s : A) (xs : List (List A)) (x : List A) → joined s (xs ++ x ∷ []) ≡ joined s xs ++ (before s (length xs) ++ x)
unfolding joined
joined_push s [] x = append-nil x
joined_push s (w ∷ ws) x =
    ap (λ t. w ++ t) (flat_map-append (λ y. s ∷ y) ws (x ∷ []) ∙ ap (λ t. flat_map (λ y. s ∷ y) ws ++ t) (append-nil (s ∷ x))) ∙ sym (append_assoc w (flat_map (λ y. s ∷ y) ws) (s ∷ x))
    ∙ ap (λ t. (w ++ flat_map (λ y. s ∷ y) ws) ++ (t ++ x)) (sym (before_suc s (length ws)))

-- a loop's step: what stands before the list at a place, and the list
pub joined_more : {A : Type 0} (s : A) (start : List A) (xs : List (List A)) (i : ℕ) (x : List A) → i < length xs → x ≡ get_or xs i [] →
    ((start ++ joined s (take i xs)) ++ before s i) ++ x ≡ start ++ joined s (take (i + 1) xs)
joined_more s start xs i x h e =
    let more : take (i + 1) xs ≡ take i xs ++ x ∷ [] = rw e (take_more xs i [] h) in
    let push : joined s (take i xs ++ x ∷ []) ≡ joined s (take i xs) ++ (before s i ++ x) =
    subst (λ n. joined s (take i xs ++ x ∷ []) ≡ joined s (take i xs) ++ (before s n ++ x)) (length-take-le i xs (omega arith)) (joined_push s (take i xs) x) in
    rw (more, push) (regroup start (joined s (take i xs)) (before s i) x)
  where
    regroup : {A : Type 0} (a b c d : List A) → ((a ++ b) ++ c) ++ d ≡ a ++ (b ++ (c ++ d))
    regroup a b c d = simp append_assoc

-- the same of a list that grew in two steps
pub joined_step : {A : Type 0} (s : A) (start : List A) (xs : List (List A)) (i : ℕ) (x : List A) {a b c : List A} → i < length xs → x ≡ get_or xs i [] →
    a ≡ start ++ joined s (take i xs) → b ≡ a ++ before s i → c ≡ b ++ x → c ≡ start ++ joined s (take (i + 1) xs)
joined_step s start xs i x h e f g k = k ∙ ap (λ t. t ++ x) (g ∙ ap (λ t. t ++ before s i) f) ∙ joined_more s start xs i x h e

-- its end
pub joined_all : {A : Type 0} (s : A) (start : List A) (xs : List (List A)) (i : ℕ) → length xs ≤ i → start ++ joined s (take i xs) ≡ start ++ joined s xs
joined_all s start xs i h = ap (λ ys. start ++ joined s ys) (take_all i xs h)

pub joined_none : {A : Type 0} (s : A) (start : List A) → start ≡ start ++ joined s []
unfolding joined
joined_none s start = sym (append-nil start)
