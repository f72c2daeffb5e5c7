-- Lists that stand in a relation pair by pair, where each item has one partner at most.
use Rattle.std.proofs.Common.{◌≡◌, List, [], ◌∷◌, All, Option, Some, None, refl, ap, ◌∙◌}
use Rattle.std.proofs.lemmas.List.Elements.{All-head, All-tail}
use Rattle.apl_saved.specs.Spelled.{BothOrNeither, Pairwise}

pub both_cons : {A : Type 0} (x y : A) (xs ys : List A) → x ≡ y → xs ≡ ys → x ∷ xs ≡ y ∷ ys
both_cons x y xs ys e es = ap (λ z. z ∷ xs) e ∙ ap (λ zs. y ∷ zs) es

-- of partners that keep to P there is one
pub pairs_one : {A B : Type 0} (R : A → B → Type 0) (P : B → Type 0) → ((x : A) (y z : B) → R x y → R x z → P y → P z → y ≡ z)
    → (xs : List A) (ys zs : List B) → Pairwise R xs ys → Pairwise R xs zs → All P ys → All P zs → ys ≡ zs
pairs_one R P one [] [] [] h k p q = refl
pairs_one R P one [] [] (z ∷ zs) h k p q = absurd k
pairs_one R P one [] (y ∷ ys) zs h k p q = absurd h
pairs_one R P one (x ∷ xs) [] zs h k p q = absurd h
pairs_one R P one (x ∷ xs) (y ∷ ys) [] h k p q = absurd k
pairs_one R P one (x ∷ xs) (y ∷ ys) (z ∷ zs) h k p q =
    both_cons y z ys zs (one x y z h.0 k.0 (All-head P y ys p) (All-head P z zs q)) (pairs_one R P one xs ys zs h.1 k.1 (All-tail P y ys p) (All-tail P z zs q))

-- the same without P
pub pairs_same : {A B : Type 0} (R : A → B → Type 0) → ((x : A) (y z : B) → R x y → R x z → y ≡ z) → (xs : List A) (ys zs : List B) → Pairwise R xs ys → Pairwise R xs zs → ys ≡ zs
pairs_same R one [] [] [] h k = refl
pairs_same R one [] [] (z ∷ zs) h k = absurd k
pairs_same R one [] (y ∷ ys) zs h k = absurd h
pairs_same R one (x ∷ xs) [] zs h k = absurd h
pairs_same R one (x ∷ xs) (y ∷ ys) [] h k = absurd k
pairs_same R one (x ∷ xs) (y ∷ ys) (z ∷ zs) h k = both_cons y z ys zs (one x y z h.0 k.0) (pairs_same R one xs ys zs h.1 k.1)

pub both_same : {A B : Type 0} (R : A → B → Type 0) → ((x : A) (y z : B) → R x y → R x z → y ≡ z) → (o : Option A) (p q : Option B) → BothOrNeither R o p → BothOrNeither R o q → p ≡ q
both_same R one None None None h k = refl
both_same R one None None (Some z) h k = absurd k
both_same R one None (Some y) q h k = absurd h
both_same R one (Some x) None q h k = absurd h
both_same R one (Some x) (Some y) None h k = absurd k
both_same R one (Some x) (Some y) (Some z) h k = ap (λ w. Some w) (one x y z h k)

-- and from the other side
abbrev pub turned : {A B : Type 0} → (A → B → Type 0) → B → A → Type 0
turned R y x = R x y

pub pairs_turned : {A B : Type 0} (R : A → B → Type 0) (xs : List A) (ys : List B) → Pairwise R xs ys → Pairwise (turned R) ys xs
pairs_turned R [] [] h = tt
pairs_turned R [] (y ∷ ys) h = absurd h
pairs_turned R (x ∷ xs) [] h = absurd h
pairs_turned R (x ∷ xs) (y ∷ ys) h = (h.0, pairs_turned R xs ys h.1)

pub both_turned : {A B : Type 0} (R : A → B → Type 0) (o : Option A) (p : Option B) → BothOrNeither R o p → BothOrNeither (turned R) p o
both_turned R None None h = tt
both_turned R None (Some y) h = absurd h
both_turned R (Some x) None h = absurd h
both_turned R (Some x) (Some y) h = h
