-- Lists that are read from the left.
use Rattle.std.proofs.Common.{◌≡◌, ℕ, zero, suc, ◌+◌, add-one, ◌<◌, ◌≤◌, Contains, List, [], ◌∷◌, ◌++◌, length, drop, refl, sym, ap, ◌∙◌, subst, append_assoc, arith}
use Rattle.std.proofs.Math.ListN.{get_or}
use Rattle.std.proofs.Math.Seq.{drop-cons}
use Rattle.apl_saved.specs.Spelled.{Pairwise}

-- The first fields of a list are these parts, and the others are the rest.
pub record HasRead {F P : Type 0} (R : F → P → Type 0) (fs rest : List F) (ps : List P) : Type 0 where
  pub found : (qs : List P) → Pairwise R rest qs → Pairwise R fs (ps ++ qs)
  pub only : (qs : List P) → Pairwise R fs qs → (rs : List P) × Pairwise R rest rs

pub none_read : {F P : Type 0} (R : F → P → Type 0) (fs : List F) → HasRead R fs fs []
none_read R fs = record { found = λ qs h. h; only = λ qs h. (qs, h) }

pub more_read : {F P : Type 0} (R : F → P → Type 0) (fs rest : List F) (ps : List P) (f : F) (p : P) → HasRead R fs (f ∷ rest) ps → R f p → HasRead R fs rest (ps ++ p ∷ [])
more_read {F} {P} R fs rest ps f p h r = record {
  found = λ qs g. subst (Pairwise R fs) (sym (append_assoc ps (p ∷ []) qs)) (h.found (p ∷ qs) (r, g));
  only = λ qs g. tail (h.only qs g).0 (h.only qs g).1;
}
  where
    tail : (rs : List P) → Pairwise R (f ∷ rest) rs → (us : List P) × Pairwise R rest us
    tail [] g = absurd g
    tail (u ∷ us) g = (us, g.1)

pub append_nil : {P : Type 0} (ps : List P) → ps ++ [] ≡ ps
append_nil [] = refl
append_nil (p ∷ ps) = ap (λ qs. p ∷ qs) (append_nil ps)

pub all_read : {F P : Type 0} (R : F → P → Type 0) (fs rest : List F) (ps : List P) → HasRead R fs rest ps → rest ≡ [] → Pairwise R fs ps
all_read R fs rest ps h e = subst (Pairwise R fs) (append_nil ps) (h.found [] (subst (λ rs. Pairwise R rs []) (sym e) tt))

pub not_read : {F P : Type 0} (R : F → P → Type 0) (fs rest : List F) (ps : List P) (f : F) → HasRead R fs (f ∷ rest) ps → ((p : P) → ¬ R f p) → (qs : List P) → ¬ Pairwise R fs qs
not_read {F} {P} R fs rest ps f h none qs g = first (h.only qs g).0 (h.only qs g).1
  where
    first : (rs : List P) → Pairwise R (f ∷ rest) rs → ⊥
    first [] g = absurd g
    first (r ∷ rs) g = none r g.0

-- fields that each are one part are one list of parts
pub one_list : {F P : Type 0} (R : F → P → Type 0) → ((f : F) (p q : P) → R f p → R f q → p ≡ q) → (fs : List F) (ps qs : List P) → Pairwise R fs ps → Pairwise R fs qs → ps ≡ qs
one_list R one [] [] [] g h = refl
one_list R one [] [] (q ∷ qs) g h = absurd h
one_list R one [] (p ∷ ps) qs g h = absurd g
one_list R one (f ∷ fs) [] qs g h = absurd g
one_list R one (f ∷ fs) (p ∷ ps) [] g h = absurd h
one_list R one (f ∷ fs) (p ∷ ps) (q ∷ qs) g h = ap (λ r. r ∷ ps) (one f p q g.0 h.0) ∙ ap (λ rs. q ∷ rs) (one_list R one fs ps qs g.1 h.1)

-- ---- by the number of a field

pub drop_past : {F : Type 0} (fs : List F) (i : ℕ) → length fs ≤ i → drop i fs ≡ []
drop_past [] zero h = refl
drop_past [] (suc i) h = refl
drop_past (f ∷ fs) zero h = absurd (omega (arith, h))
drop_past (f ∷ fs) (suc i) h = drop_past fs i (omega (arith, h))

pub drop_at : {F : Type 0} (fs : List F) (i : ℕ) (f : F) → i < length fs → f ≡ get_or fs i f → drop i fs ≡ f ∷ drop (suc i) fs
drop_at fs i f lt e = drop-cons fs i f lt ∙ ap (λ g. g ∷ drop (suc i) fs) (sym e)

pub not_read_at : {F P : Type 0} (R : F → P → Type 0) (fs : List F) (i : ℕ) (ps : List P) (f : F) → HasRead R fs (drop i fs) ps → i < length fs → f ≡ get_or fs i f → ((p : P) → ¬ R f p) → (qs : List P) → ¬ Pairwise R fs qs
not_read_at R fs i ps f h lt e none qs = not_read R fs (drop (suc i) fs) ps f (subst (λ rest. HasRead R fs rest ps) (drop_at fs i f lt e) h) none qs

pub next_at : {F : Type 0} (fs : List F) (i : ℕ) (f : F) → i < length fs → f ≡ get_or fs i f → drop i fs ≡ f ∷ drop (i + 1) fs
next_at fs i f lt e = drop_at fs i f lt e ∙ ap (λ k. f ∷ drop k fs) (sym (add-one i))

-- ---- what a list has

pub contains_later : {X : Type 0} (x y : X) (xs : List X) → Contains xs y → Contains (x ∷ xs) y
contains_later x y xs (k, lt, e) = (suc k, omega (arith, lt), e)

pub contains_first : {X : Type 0} (x y : X) (xs : List X) → x ≡ y → Contains (x ∷ xs) y
contains_first x y xs e = (0, omega arith, e)

pub pair_length : {F P : Type 0} (R : F → P → Type 0) (fs : List F) (ps : List P) → Pairwise R fs ps → length fs ≡ length ps
pair_length R [] [] h = refl
pair_length R [] (p ∷ ps) h = absurd h
pair_length R (f ∷ fs) [] h = absurd h
pair_length R (f ∷ fs) (p ∷ ps) h = ap suc (pair_length R fs ps h.1)
