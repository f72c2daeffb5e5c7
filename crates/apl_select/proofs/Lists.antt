-- Lists made of lists.
use Rattle.std.proofs.Common.{zero, suc, ◌≡◌, ℕ, ◌+◌, ◌<◌, List, [], ◌∷◌, ◌++◌, map, length, get_or, refl, ap, sym, ◌∙◌, arith, append-nil, append_assoc, add-one, drop, drop-cons, take}
use Rattle.std.specs.List.{flat_map, range_with_len, AllByRecursion, All}
use Rattle.std.proofs.lemmas.Grind.{flat_map-append}
use Rattle.std.proofs.lemmas.List.{map-append, take_more}
use Rattle.std.proofs.lemmas.List.FromFn.{fill_by_all}
use Rattle.std.proofs.lemmas.List.Elements.{All-append, All-nil, All-cons, All-get_or, All-tail}

pub flat_map_flat_map : {A B C : Type 0} (g : B → List C) (f : A → List B) (xs : List A) → flat_map g (flat_map f xs) ≡ flat_map (λ x. flat_map g (f x)) xs
flat_map_flat_map g f [] = refl
flat_map_flat_map g f (x ∷ xs) = flat_map-append g (f x) (flat_map f xs) ∙ ap (λ l. flat_map g (f x) ++ l) (flat_map_flat_map g f xs)

pub map_flat_map : {A B C : Type 0} (h : B → C) (f : A → List B) (xs : List A) → map h (flat_map f xs) ≡ flat_map (λ x. map h (f x)) xs
map_flat_map h f [] = refl
map_flat_map h f (x ∷ xs) = map-append h (f x) (flat_map f xs) ∙ ap (λ l. map h (f x) ++ l) (map_flat_map h f xs)

-- functions that agree where P holds
pub flat_map_same : {A B : Type 0} (P : A → Type 0) (f g : A → List B) → ((x : A) → P x → f x ≡ g x) → (xs : List A) → AllByRecursion P xs → flat_map f xs ≡ flat_map g xs
flat_map_same P f g h [] a = refl
flat_map_same P f g h (x ∷ xs) a = ap (λ l. l ++ flat_map f xs) (h x a.0) ∙ ap (λ l. g x ++ l) (flat_map_same P f g h xs a.1)

pub flat_map_equal : {A B : Type 0} (f g : A → List B) → ((x : A) → f x ≡ g x) → (xs : List A) → flat_map f xs ≡ flat_map g xs
flat_map_equal f g h [] = refl
flat_map_equal f g h (x ∷ xs) = ap (λ l. l ++ flat_map f xs) (h x) ∙ ap (λ l. g x ++ l) (flat_map_equal f g h xs)

pub map_equal : {A B : Type 0} (f g : A → B) → ((x : A) → f x ≡ g x) → (xs : List A) → map f xs ≡ map g xs
map_equal f g h [] = refl
map_equal f g h (x ∷ xs) = ap (λ y. y ∷ map f xs) (h x) ∙ ap (λ l. g x ∷ l) (map_equal f g h xs)

-- the elements of a list, one by one
pub all_read : {A : Type 0} (xs : List A) (n : ℕ) (d : A) → length xs ≡ n → map (λ k. get_or xs k d) (range_with_len 0 n) ≡ xs
all_read xs n d h = sym (fill_by_all (λ k. get_or xs k d) xs n d h (λ k l. refl))

pub all_flat : {A B : Type 0} (P : B → Type 0) (Q : A → Type 0) (f : A → List B) → ((x : A) → Q x → All P (f x)) → (xs : List A) → AllByRecursion Q xs → All P (flat_map f xs)
all_flat P Q f h [] a = All-nil P
all_flat P Q f h (x ∷ xs) a = All-append P (f x) (flat_map f xs) (h x a.0) (all_flat P Q f h xs a.1)

pub all_mapped : {A B : Type 0} (P : B → Type 0) (Q : A → Type 0) (f : A → B) → ((x : A) → Q x → P (f x)) → (xs : List A) → AllByRecursion Q xs → All P (map f xs)
all_mapped P Q f h [] a = All-nil P
all_mapped P Q f h (x ∷ xs) a = All-cons P (f x) (map f xs) (h x a.0) (all_mapped P Q f h xs a.1)

-- what holds of all holds of those of one piece
pub all_front : {A : Type 0} (P : A → Type 0) (xs ys : List A) → All P (xs ++ ys) → All P xs
all_front P [] ys a = All-nil P
all_front P (x ∷ xs) ys a = All-cons P x xs (All-get_or P (x ∷ (xs ++ ys)) 0 x (omega arith) a) (all_front P xs ys (All-tail P x (xs ++ ys) a))

pub all_back : {A : Type 0} (P : A → Type 0) (xs ys : List A) → All P (xs ++ ys) → All P ys
all_back P [] ys a = a
all_back P (x ∷ xs) ys a = all_back P xs ys (All-tail P x (xs ++ ys) a)

pub all_piece : {A B : Type 0} (P : B → Type 0) (f : A → List B) (xs : List A) (i : ℕ) (d : A) → i < length xs → All P (flat_map f xs) → All P (f (get_or xs i d))
all_piece P f [] i d l a = absurd (omega arith)
all_piece P f (x ∷ xs) zero d l a = all_front P (f x) (flat_map f xs) a
all_piece P f (x ∷ xs) (suc i) d l a = all_piece P f xs i d (omega arith) (all_back P (f x) (flat_map f xs) a)

pub all_at : {A B : Type 0} (P : B → Type 0) (f : A → B) (xs : List A) (i : ℕ) (d : A) → i < length xs → All P (map f xs) → P (f (get_or xs i d))
all_at P f [] i d l a = absurd (omega arith)
all_at P f (x ∷ xs) zero d l a = All-get_or P (f x ∷ map f xs) 0 (f x) (omega arith) a
all_at P f (x ∷ xs) (suc i) d l a = all_at P f xs i d (omega arith) (All-tail P (f x) (map f xs) a)

pub all_imply : {A : Type 0} (P Q : A → Type 0) → ((x : A) → P x → Q x) → (xs : List A) → All P xs → All Q xs
all_imply P Q h [] a = All-nil Q
all_imply P Q h (x ∷ xs) a = All-cons Q x xs (h x (All-get_or P (x ∷ xs) 0 x (omega arith) a)) (all_imply P Q h xs (All-tail P x xs a))

-- one number more
pub range_more : (a n : ℕ) → range_with_len a (suc n) ≡ range_with_len a n ++ (a + n) ∷ []
range_more a zero = ap (λ k. k ∷ []) (none a)
  where
    none : (a : ℕ) → a ≡ a + 0
    none a = omega arith
range_more a (suc n) = ap (λ l. a ∷ l) (range_more (a + 1) n ∙ ap (λ k. range_with_len (a + 1) n ++ k ∷ []) (next a n))
  where
    next : (a n : ℕ) → (a + 1) + n ≡ a + suc n
    next a n = omega arith

pub flat_map_more : {A : Type 0} (f : ℕ → List A) (n : ℕ) → flat_map f (range_with_len 0 (n + 1)) ≡ flat_map f (range_with_len 0 n) ++ f n
flat_map_more {A = A} f n =
    ap (λ k. flat_map f (range_with_len 0 k)) (add-one n)
    ∙ ap (flat_map f) (range_more 0 n)
    ∙ flat_map-append f (range_with_len 0 n) ((0 + n) ∷ [])
    ∙ ap (λ (l : List A). flat_map f (range_with_len 0 n) ++ l) (append-nil (f (0 + n)))
    ∙ ap (λ k. flat_map f (range_with_len 0 n) ++ f k) (none n)
  where
    none : (n : ℕ) → 0 + n ≡ n
    none n = omega arith

pub range_next : (k : ℕ) (xs ys : List ℕ) → xs ≡ range_with_len 0 k → ys ≡ xs ++ k ∷ [] → ys ≡ range_with_len 0 (k + 1)
range_next k xs ys e g =
    g ∙ ap (λ l. l ++ k ∷ []) e ∙ ap (λ j. range_with_len 0 k ++ j ∷ []) (none k) ∙ sym (range_more 0 k) ∙ ap (range_with_len 0) (sym (add-one k))
  where
    none : (k : ℕ) → k ≡ 0 + k
    none k = omega arith

pub all_from : {A : Type 0} (P : A → Type 0) (xs : List A) → AllByRecursion P xs → All P xs
all_from P [] a = All-nil P
all_from P (x ∷ xs) a = All-cons P x xs a.0 (all_from P xs a.1)

-- the items from one on
pub rest_from : {A : Type 0} (xs : List A) (k : ℕ) (d : A) → k < length xs → drop k xs ≡ get_or xs k d ∷ drop (k + 1) xs
rest_from xs k d h = rw (add-one, drop-cons xs k d)

-- one item more of what is put behind a list
pub map_next : {A B : Type 0} (h : B → A) (base out new : List A) (xs : List B) (i : ℕ) (d : B) → i < length xs → out ≡ base ++ map h (take i xs) → new ≡ out ++ h (get_or xs i d) ∷ [] → new ≡ base ++ map h (take (i + 1) xs)
map_next h base out new xs i d l e g =
    g ∙ ap (λ z. z ++ h (get_or xs i d) ∷ []) e ∙ append_assoc base (map h (take i xs)) (h (get_or xs i d) ∷ [])
    ∙ ap (λ z. base ++ z) (sym (map-append h (take i xs) (get_or xs i d ∷ [])))
    ∙ ap (λ z. base ++ map h z) (sym (take_more xs i d l))

-- the items of one list more
pub flat_next : {A B : Type 0} (f : B → List A) (base out new : List A) (xs : List B) (i : ℕ) (d : B) → i < length xs → out ≡ base ++ flat_map f (take i xs) → new ≡ out ++ f (get_or xs i d) → new ≡ base ++ flat_map f (take (i + 1) xs)
flat_next {A = A} f base out new xs i d l e g =
    g ∙ ap (λ z. z ++ f (get_or xs i d)) e ∙ append_assoc base (flat_map f (take i xs)) (f (get_or xs i d))
    ∙ ap (λ (z : List A). base ++ (flat_map f (take i xs) ++ z)) (sym (append-nil (f (get_or xs i d))))
    ∙ ap (λ z. base ++ z) (sym (flat_map-append f (take i xs) (get_or xs i d ∷ [])))
    ∙ ap (λ z. base ++ flat_map f z) (sym (take_more xs i d l))
