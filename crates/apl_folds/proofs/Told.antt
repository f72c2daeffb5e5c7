-- Numbers that are written in a room one after another.
use Rattle.std.proofs.Common.{◌≡◌, ℕ, ◌+◌, ◌<◌, ◌≤◌, List, length, get_or, sym, subst, arith, refl, ◌≢◌, set, nat_lt, Bool, true, false}
use Rattle.std.proofs.lemmas.Bool.{ltb-true, ltb-false}
use Rattle.std.proofs.lemmas.List.{get_or-set_same, get_or-set_other}

-- one number more
pub filled_more : {A : Type 0} (none : A) (P : ℕ → A → Type 0) (room : List A) (j : ℕ) (v : A) → j < length room → P j v → ((i : ℕ) → i < j → P i (get_or room i none)) → (i : ℕ) → i < j + 1 → P i (get_or (set room j v) i none)
filled_more {A = A} none P room j v h p each i l = split (nat_lt i j) refl
  where
    apart : (i j : ℕ) → i < j → i ≢ j
    apart i j h e = omega arith

    split : (b : Bool) → nat_lt i j ≡ b → P i (get_or (set room j v) i none)
    split true t =
        let low : i < j = ltb-true i j t in
        let Q : A → Type 0 = λ z. P i z in
        subst Q (sym (get_or-set_other room j i v none (apart i j low))) (each i low)
    split false t =
        let high : j ≤ i = ltb-false i j t in
        let same : j ≡ i = omega arith in
        let Q : A → Type 0 = λ z. P j z in
        let R : ℕ → Type 0 = λ k. P k (get_or (set room j v) k none) in
        subst R same (subst Q (sym (get_or-set_same room j v none h)) p)

-- the others stay
pub other_stays : {A : Type 0} (none : A) (P : A → Type 0) (room : List A) (j i : ℕ) (v : A) → j < i → P (get_or room i none) → P (get_or (set room j v) i none)
other_stays none P room j i v h p = subst P (sym (get_or-set_other room j i v none (apart i j h))) p
  where
    apart : (i j : ℕ) → j < i → i ≢ j
    apart i j h e = omega arith

-- what holds below one number, and at it
pub one_more : (P : ℕ → Type 0) (j : ℕ) → P j → ((i : ℕ) → i < j → P i) → (i : ℕ) → i < j + 1 → P i
one_more P j p each i l = split (nat_lt i j) refl
  where
    split : (b : Bool) → nat_lt i j ≡ b → P i
    split true t = each i (ltb-true i j t)
    split false t =
        let high : j ≤ i = ltb-false i j t in
        let same : j ≡ i = omega arith in
        subst P same p
