-- Lists of numbers in a type that stores them, of which each item is a number.
use Rattle.std.proofs.Common.{◌≡◌, ℕ, ℤ, pos, ◌<◌, List, ◌++◌, map, length, take, drop, get_or, replicate, ap, sym, ◌∙◌}
use Rattle.std.proofs.lemmas.List.{length-map, take-map, drop-map, get_or-map, map-append}
use lib.LanesLaws.{map-replicate}

-- there are as many
pub as_many : {A : Type 0} (value : A → ℤ) (numbers : List A → List ℤ) → ((xs : List A) → numbers xs ≡ map value xs) → (xs : List A) → length (numbers xs) ≡ length xs
as_many value numbers each xs = ap length (each xs) ∙ length-map xs value

-- the number at a place is that of the item
pub number_of_item : {A : Type 0} (value : A → ℤ) (numbers : List A → List ℤ) → ((xs : List A) → numbers xs ≡ map value xs) → (xs : List A) (k : ℕ) (x : A) → k < length xs → x ≡ get_or xs k x →
    get_or (numbers xs) k (pos 0) ≡ value x
number_of_item value numbers each xs k x h e = ap (λ (zs : List ℤ). get_or zs k (pos 0)) (each xs) ∙ get_or-map value xs k x (pos 0) h ∙ ap value (sym e)

-- those of some of the items
pub numbers-take : {A : Type 0} (value : A → ℤ) (numbers : List A → List ℤ) → ((xs : List A) → numbers xs ≡ map value xs) → (n : ℕ) (xs : List A) → numbers (take n xs) ≡ take n (numbers xs)
numbers-take value numbers each n xs = each (take n xs) ∙ sym (ap (take n) (each xs) ∙ take-map value n xs)

pub numbers-drop : {A : Type 0} (value : A → ℤ) (numbers : List A → List ℤ) → ((xs : List A) → numbers xs ≡ map value xs) → (n : ℕ) (xs : List A) → numbers (drop n xs) ≡ drop n (numbers xs)
numbers-drop value numbers each n xs = each (drop n xs) ∙ sym (ap (drop n) (each xs) ∙ drop-map value n xs)

-- those of two lists
pub numbers-append : {A : Type 0} (value : A → ℤ) (numbers : List A → List ℤ) → ((xs : List A) → numbers xs ≡ map value xs) → (xs ys : List A) → numbers (xs ++ ys) ≡ numbers xs ++ numbers ys
numbers-append {A = A} value numbers each xs ys =
    each (xs ++ ys) ∙ map-append value xs ys ∙ ap (λ (zs : List ℤ). zs ++ map value ys) (sym (each xs)) ∙ ap (λ (zs : List ℤ). numbers xs ++ zs) (sym (each ys))

-- those of an item again and again
pub numbers-replicate : {A : Type 0} (value : A → ℤ) (numbers : List A → List ℤ) → ((xs : List A) → numbers xs ≡ map value xs) → (n : ℕ) (x : A) (z : ℤ) → value x ≡ z → numbers (replicate n x) ≡ replicate n z
numbers-replicate value numbers each n x z e = each (replicate n x) ∙ map-replicate value n x ∙ ap (replicate n) e
