-- Folds of rows by associative functions, in parts.
use Rattle.std.proofs.Common.{◌≡◌, ℕ, ℤ, pos, ◌+◌, ◌<◌, ◌≤◌, List, [], ◌∷◌, ◌++◌, map, length, take, drop, get_or, Result, Ok, Err, refl, ap, sym, ◌∙◌, arith, take-append-drop}
use Rattle.std.proofs.lemmas.List.{take_more, take_all}
use Rattle.apl_faults.specs.declared.fault.Fault.{Fault}
use Rattle.apl_arrays.specs.Results.{and_then}
use Rattle.apl_folds.specs.Chains.{IsAssociative}
use Rattle.apl_folds.specs.Lines.{fold_by}
use Rattle.apl_scalar.proofs.OfLanes.{as_many, number_of_item, numbers-append}

fold_cons : (f : ℤ → ℤ → Result ℤ Fault) (x : ℤ) (xs : List ℤ) → 0 < length xs → fold_by f (x ∷ xs) ≡ and_then (fold_by f xs) (λ z. f x z)
fold_cons f x [] h = absurd (omega arith)
fold_cons f x (y ∷ ys) h = refl

-- numbers of which the fold is known, before others
fold_append : (f : ℤ → ℤ → Result ℤ Fault) → IsAssociative f → (xs ys : List ℤ) (x : ℤ) → fold_by f xs ≡ Ok x → 0 < length ys → fold_by f (xs ++ ys) ≡ and_then (fold_by f ys) (λ y. f x y)
fold_append f a [] ys x e h = absurd (cc)
fold_append f a (v ∷ []) ys x e h =
    let same : v ≡ x = cc in
    fold_cons f v ys h ∙ ap (λ (z : ℤ). and_then (fold_by f ys) (λ y. f z y)) same
fold_append f a (v ∷ u ∷ us) ys x e h = inside (λ w p. fold_append f a (u ∷ us) ys w p h) (fold_by f (u ∷ us)) refl e
  where
    moved : (w : ℤ) (r : Result ℤ Fault) → f v w ≡ Ok x → and_then (and_then r (λ y. f w y)) (λ z. f v z) ≡ and_then r (λ y. f x y)
    moved w (Ok y) p = sym (a v w y) ∙ ap (λ (s : Result ℤ Fault). and_then s (λ z. f z y)) p
    moved w (Err g) p = refl

    inside : ((w : ℤ) → fold_by f (u ∷ us) ≡ Ok w → fold_by f (u ∷ us ++ ys) ≡ and_then (fold_by f ys) (λ y. f w y)) → (r : Result ℤ Fault) → fold_by f (u ∷ us) ≡ r → and_then r (λ z. f v z) ≡ Ok x →
        fold_by f (v ∷ u ∷ us ++ ys) ≡ and_then (fold_by f ys) (λ y. f x y)
    inside others (Ok w) p q = ap (λ (s : Result ℤ Fault). and_then s (λ z. f v z)) (others w p) ∙ moved w (fold_by f ys) q
    inside others (Err g) p q = absurd (cc)

some_numbers : (f : ℤ → ℤ → Result ℤ Fault) (xs : List ℤ) (x : ℤ) → fold_by f xs ≡ Ok x → 0 < length xs
some_numbers f [] x e = absurd (cc)
some_numbers f (y ∷ ys) x e = omega arith

-- two parts
pub fold_parts : (f : ℤ → ℤ → Result ℤ Fault) → IsAssociative f → (xs ys : List ℤ) (x y z : ℤ) → fold_by f xs ≡ Ok x → fold_by f ys ≡ Ok y → f x y ≡ Ok z → fold_by f (xs ++ ys) ≡ Ok z
fold_parts f a xs ys x y z p q r = fold_append f a xs ys x p (some_numbers f ys y q) ∙ ap (λ (s : Result ℤ Fault). and_then s (λ v. f x v)) q ∙ r

-- one number more
pub row_longer : {A : Type 0} (value : A → ℤ) (numbers : List A → List ℤ) → ((xs : List A) → numbers xs ≡ map value xs) → (f : ℤ → ℤ → Result ℤ Fault) → IsAssociative f →
    (xs : List A) (j : ℕ) (x y z : A) → j < length xs → y ≡ get_or xs j y → fold_by f (take j (numbers xs)) ≡ Ok (value x) → f (value x) (value y) ≡ Ok (value z) →
    fold_by f (take (j + 1) (numbers xs)) ≡ Ok (value z)
row_longer value numbers each f a xs j x y z h is e p =
    ap (fold_by f) (take_more (numbers xs) j (pos 0) (omega (arith, as_many value numbers each xs)) ∙ ap (λ (v : ℤ). take j (numbers xs) ++ v ∷ []) (number_of_item value numbers each xs j y h is))
    ∙ fold_parts f a (take j (numbers xs)) (value y ∷ []) (value x) (value y) (value z) e refl p

-- the first number
pub row_begins : (f : ℤ → ℤ → Result ℤ Fault) (xs : List ℤ) → 0 < length xs → fold_by f (take 1 xs) ≡ Ok (get_or xs 0 (pos 0))
row_begins f [] h = absurd (omega arith)
row_begins f (x ∷ xs) h = refl

-- all numbers
pub row_whole : (f : ℤ → ℤ → Result ℤ Fault) (xs : List ℤ) (j : ℕ) (z : ℤ) → length xs ≤ j → fold_by f (take j xs) ≡ Ok z → fold_by f xs ≡ Ok z
row_whole f xs j z h e = ap (fold_by f) (sym (take_all j xs h)) ∙ e

-- numbers in two parts
pub in_parts : {A : Type 0} (value : A → ℤ) (numbers : List A → List ℤ) → ((xs : List A) → numbers xs ≡ map value xs) → (f : ℤ → ℤ → Result ℤ Fault) → IsAssociative f →
    (xs ys zs : List A) (n : ℕ) (x y z : ℤ) → ys ≡ take n xs → zs ≡ drop n xs → fold_by f (numbers ys) ≡ Ok x → fold_by f (numbers zs) ≡ Ok y → f x y ≡ Ok z → fold_by f (numbers xs) ≡ Ok z
in_parts {A = A} value numbers each f a xs ys zs n x y z ey ez p q r =
    let whole : xs ≡ ys ++ zs = sym (rw (ey, ez) (take-append-drop n xs)) in
    ap (λ (l : List A). fold_by f (numbers l)) whole ∙ ap (fold_by f) (numbers-append value numbers each ys zs) ∙ fold_parts f a (numbers ys) (numbers zs) x y z p q r
