-- Lists made of consecutive numbers, in parts.
use Rattle.std.proofs.Common.{suc, zero, ◌≡◌, ℕ, ◌+◌, List, [], ◌∷◌, ◌++◌, map, replicate, refl, ap, sym, ◌∙◌, arith}
use Rattle.std.specs.List.{range_with_len}
use Rattle.std.proofs.lemmas.List.{map-append}

-- f of the numbers from c + a on
pub map_from : {A : Type 0} (f : ℕ → A) (c a n : ℕ) → map f (range_with_len (c + a) n) ≡ map (λ r. f (c + r)) (range_with_len a n)
map_from f c a zero = refl
map_from {A = A} f c a (suc n) = ap (λ (l : List A). f (c + a) ∷ l) (ap (λ (k : ℕ). map f (range_with_len k n)) (there c a) ∙ map_from f c (a + 1) n)
  where
    there : (c a : ℕ) → (c + a) + 1 ≡ c + (a + 1)
    there c a = omega arith

pub range-append : (a m n : ℕ) → range_with_len a m ++ range_with_len (a + m) n ≡ range_with_len a (m + n)
range-append a zero n = ap (λ (k : ℕ). range_with_len k n) (none a) ∙ ap (range_with_len a) (nought n)
  where
    none : (a : ℕ) → a + 0 ≡ a
    none a = omega arith

    nought : (n : ℕ) → n ≡ 0 + n
    nought n = omega arith
range-append a (suc m) n =
    ap (λ (k : ℕ). a ∷ (range_with_len (a + 1) m ++ range_with_len k n)) (there a m)
    ∙ ap (λ (l : List ℕ). a ∷ l) (range-append (a + 1) m n)
    ∙ ap (range_with_len a) (more m n)
  where
    there : (a m : ℕ) → a + suc m ≡ (a + 1) + m
    there a m = omega arith

    more : (m n : ℕ) → suc (m + n) ≡ suc m + n
    more m n = omega arith

-- f of the numbers below a sum, in two parts
pub map_parts : {A : Type 0} (f : ℕ → A) (m n t : ℕ) → m + n ≡ t → map f (range_with_len 0 m) ++ map (λ r. f (m + r)) (range_with_len 0 n) ≡ map f (range_with_len 0 t)
map_parts {A = A} f m n t e =
    ap (λ (l : List A). map f (range_with_len 0 m) ++ l) (sym (map_from f m 0 n) ∙ ap (λ (k : ℕ). map f (range_with_len k n)) (there m))
    ∙ sym (map-append f (range_with_len 0 m) (range_with_len (0 + m) n))
    ∙ ap (map f) (range-append 0 m n)
    ∙ ap (λ (k : ℕ). map f (range_with_len 0 k)) e
  where
    there : (m : ℕ) → m + 0 ≡ 0 + m
    there m = omega arith

-- f of each of so many numbers, where it is the same
pub map_one : {A : Type 0} (f : ℕ → A) (x : A) → ((k : ℕ) → f k ≡ x) → (a n : ℕ) → map f (range_with_len a n) ≡ replicate n x
map_one f x h a zero = refl
map_one {A = A} f x h a (suc n) = ap (λ (y : A). y ∷ map f (range_with_len (a + 1) n)) (h a) ∙ ap (λ (l : List A). x ∷ l) (map_one f x h (a + 1) n)

-- two functions that agree
pub map_always : {A B : Type 0} (f g : A → B) → ((x : A) → f x ≡ g x) → (xs : List A) → map f xs ≡ map g xs
map_always f g h [] = refl
map_always {B = B} f g h (x ∷ xs) = ap (λ (y : B). y ∷ map f xs) (h x) ∙ ap (λ (l : List B). g x ∷ l) (map_always f g h xs)
