-- Lists in which a relation holds between each item and each later one.
use Rattle.std.proofs.Common.{◌≡◌, zero, suc, ◌⊎◌, inl, inr, List, [], ◌∷◌, ◌++◌, map, AllPairs, Contains, refl, sym, subst, arith}
use Rattle.std.specs.List.{AllByRecursion}
use Rattle.std.proofs.lemmas.List.Elements.{All-from_recursion, recursion_from_All, All-contains}
use Rattle.std.proofs.lemmas.List.Kept.{AllPairs-cons}

-- the same by recursion
abbrev pub PairsHold : {A : Type 0} → (A → A → Type 0) → List A → Type 0
PairsHold R [] = Unit {0}
PairsHold R (x ∷ xs) = AllByRecursion (R x) xs × PairsHold R xs

pub to_pairs : {A : Type 0} (R : A → A → Type 0) (xs : List A) → PairsHold R xs → AllPairs R xs
to_pairs R [] h = λ i j d below within. absurd (omega arith)
to_pairs R (x ∷ xs) h = AllPairs-cons R x xs (All-from_recursion (R x) xs h.0) (to_pairs R xs h.1)

pub from_pairs : {A : Type 0} (R : A → A → Type 0) (xs : List A) → AllPairs R xs → PairsHold R xs
from_pairs R [] h = tt
from_pairs R (x ∷ xs) h = (
  recursion_from_All (R x) xs (λ k d within. h 0 (suc k) d (omega arith) (omega arith)),
  from_pairs R xs (λ i j d below within. h (suc i) (suc j) d (omega arith) (omega arith)),
)

-- ---- of all items

pub all_append : {A : Type 0} (P : A → Type 0) (xs ys : List A) → AllByRecursion P xs → AllByRecursion P ys → AllByRecursion P (xs ++ ys)
all_append P [] ys a b = b
all_append P (x ∷ xs) ys a b = (a.0, all_append P xs ys a.1 b)

pub all_map : {A B : Type 0} (P : B → Type 0) (f : A → B) (xs : List A) → AllByRecursion (λ x. P (f x)) xs → AllByRecursion P (map f xs)
all_map P f [] a = tt
all_map P f (x ∷ xs) a = (a.0, all_map P f xs a.1)

pub all_of : {A : Type 0} (P : A → Type 0) → ((x : A) → P x) → (xs : List A) → AllByRecursion P xs
all_of P h [] = tt
all_of P h (x ∷ xs) = (h x, all_of P h xs)

pub all_so : {A : Type 0} (P Q : A → Type 0) → ((x : A) → P x → Q x) → (xs : List A) → AllByRecursion P xs → AllByRecursion Q xs
all_so P Q h [] a = tt
all_so P Q h (x ∷ xs) a = (h x a.0, all_so P Q h xs a.1)

-- ---- of pairs

pub pairs_append : {A : Type 0} (R : A → A → Type 0) (xs ys : List A) → PairsHold R xs → PairsHold R ys → AllByRecursion (λ x. AllByRecursion (R x) ys) xs → PairsHold R (xs ++ ys)
pairs_append R [] ys p q h = q
pairs_append R (x ∷ xs) ys p q h = (all_append (R x) xs ys p.0 h.0, pairs_append R xs ys p.1 q h.1)

pub pairs_map : {A B : Type 0} (R : B → B → Type 0) (f : A → B) (xs : List A) → PairsHold (λ x y. R (f x) (f y)) xs → PairsHold R (map f xs)
pairs_map R f [] p = tt
pairs_map R f (x ∷ xs) p = (all_map (R (f x)) f xs p.0, pairs_map R f xs p.1)

pub pairs_so : {A : Type 0} (R S : A → A → Type 0) → ((x y : A) → R x y → S x y) → (xs : List A) → PairsHold R xs → PairsHold S xs
pairs_so R S h [] p = tt
pairs_so R S h (x ∷ xs) p = (all_so (R x) (S x) (h x) xs p.0, pairs_so R S h xs p.1)

-- ---- what is among the items

pub first_among : {A : Type 0} (x : A) (xs : List A) → Contains (x ∷ xs) x
first_among x xs = (0, omega arith, refl)

pub later_among : {A : Type 0} (x y : A) (xs : List A) → Contains xs y → Contains (x ∷ xs) y
later_among x y xs c = let within = c.1 in (suc c.0, omega arith, c.2)

pub none_among : {A : Type 0} (y : A) → Contains [] y → ⊥
none_among y c = let within = c.1 in omega arith

pub among_cases : {A : Type 0} (x y : A) (xs : List A) → Contains (x ∷ xs) y → (x ≡ y) ⊎ Contains xs y
among_cases x y xs (zero, within, e) = inl e
among_cases x y xs (suc k, within, e) = inr (k, omega arith, e)

-- ---- of one order there is one list

pub one_list : {A : Type 0} (R : A → A → Type 0) → ((x y : A) → R x y → R y x → ⊥) → (xs ys : List A) → PairsHold R xs → PairsHold R ys
    → ((x : A) → Contains xs x → Contains ys x) → ((x : A) → Contains ys x → Contains xs x) → xs ≡ ys
one_list R one_way [] [] p q f g = refl
one_list R one_way [] (y ∷ ys) p q f g = absurd (none_among y (g y (first_among y ys)))
one_list R one_way (x ∷ xs) [] p q f g = absurd (none_among x (f x (first_among x xs)))
one_list {A = A} R one_way (x ∷ xs) (y ∷ ys) p q f g =
    let rest : xs ≡ ys = one_list R one_way xs ys p.1 q.1 inward outward in
    λ i. same i ∷ rest i
  where
    both : (x ≡ y) ⊎ Contains xs y → (y ≡ x) ⊎ Contains ys x → x ≡ y
    both (inl e) d = e
    both (inr c) (inl e) = sym e
    both (inr c) (inr d) = absurd (one_way x y (All-contains (R x) xs y (All-from_recursion (R x) xs p.0) c) (All-contains (R y) ys x (All-from_recursion (R y) ys q.0) d))

    same : x ≡ y
    same = both (among_cases x y xs (g y (first_among y ys))) (among_cases y x ys (f x (first_among x xs)))

    apart : (z : A) → R z z → ⊥
    apart z r = one_way z z r r

    inward : (z : A) → Contains xs z → Contains ys z
    inward z c = of (among_cases y z ys (f z (later_among x z xs c)))
      where
        of : (y ≡ z) ⊎ Contains ys z → Contains ys z
        of (inl e) = absurd (apart z (subst (λ w. R w z) (λ i. e i) (subst (λ w. R w z) same (All-contains (R x) xs z (All-from_recursion (R x) xs p.0) c))))
        of (inr d) = d

    outward : (z : A) → Contains ys z → Contains xs z
    outward z c = of (among_cases x z xs (g z (later_among y z ys c)))
      where
        of : (x ≡ z) ⊎ Contains xs z → Contains xs z
        of (inl e) = absurd (apart z (subst (λ w. R w z) e (subst (λ w. R w z) (sym same) (All-contains (R y) ys z (All-from_recursion (R y) ys q.0) c))))
        of (inr d) = d
