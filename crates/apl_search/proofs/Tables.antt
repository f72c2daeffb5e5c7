-- Tables of first places: how they are made and what they say.
use Rattle.std.proofs.Common.{◌≡◌, ◌≢◌, ℕ, ℤ, pos, suc, ◌+◌, ◌<◌, ◌+ℤ◌, Bool, true, false, List, ◌∷◌, length, get_or, set, drop, drop-cons, refl, ap, sym, ◌∙◌, subst, arith}
use Rattle.std.specs.Ordering.{int_eq}
use Rattle.std.specs.List.{All, position_or_len}
use Rattle.std.proofs.lemmas.Int.{ints}
use Rattle.std.proofs.lemmas.List.{get_or-set_same, get_or-set_other, length-set}
use Rattle.apl_search.specs.declared.table.Span.{Span}
use Rattle.apl_search.specs.inside.Tables.{AreFirsts, IsWithin}
use Rattle.apl_search.proofs.Firsts.{eq_items, itself, first_none}

-- the place of a number before others: its own, or one behind its place among them
here_or_behind : (y z : ℤ) (zs : List ℤ) (n m : ℕ) → ((y ≡ z) → m ≡ n) → ((y ≡ z → ⊥) → m ≡ n + 1 + position_or_len (int_eq y) zs) → m ≡ n + position_or_len (int_eq y) (z ∷ zs)
here_or_behind y z zs n m here behind = each (int_eq y z) refl
  where
    each : (b : Bool) → int_eq y z ≡ b → m ≡ n + position_or_len (int_eq y) (z ∷ zs)
    each true e = let same : m ≡ n = here (sym (eq_items y z e)) in simp e (omega arith)
    each false e =
        let other : y ≡ z → ⊥ = λ s. absurd (cc (itself y, ap (int_eq y) s)) in
        let next : m ≡ n + 1 + position_or_len (int_eq y) zs = behind other in
        simp e (omega arith)

-- the slot of the number at a place gets that place
pub entered : (smallest : ℤ) (slots : List ℕ) (n slot : ℕ) (zs : List ℤ) → AreFirsts smallest slots (n + 1) (drop (n + 1) zs) → n < length zs → slot < length slots →
    smallest +ℤ pos slot ≡ get_or zs n (pos 0) → AreFirsts smallest (set slots slot n) n (drop n zs)
entered smallest slots n slot zs h l s e = λ k m.
    let prefix : drop n zs ≡ get_or zs n (pos 0) ∷ drop (n + 1) zs = rw (add_one n) (drop-cons zs n (pos 0) l) in
    rw prefix
    (here_or_behind (smallest +ℤ pos k) (get_or zs n (pos 0)) (drop (n + 1) zs) n (get_or (set slots slot n) k 0)
    (λ same. let at : k ≡ slot = omega (arith, ints) in rw at (get_or-set_same slots slot n 0 s))
    (λ other. let at : k ≢ slot = λ q. other (ap (λ (j : ℕ). smallest +ℤ pos j) q ∙ e) in
    get_or-set_other slots slot k n 0 at ∙ h k (omega (arith, length-set slots slot n))))
  where
    add_one : (n : ℕ) → n + 1 ≡ suc n
    add_one n = omega arith

-- a number outside the span stands nowhere
pub outside : (span : Span) (y : ℤ) (zs : List ℤ) → All (IsWithin span) zs → (IsWithin span y → ⊥) → position_or_len (int_eq y) zs ≡ length zs
outside span y zs h out = first_none (int_eq y) zs (pos 0) (λ k l. none k l (int_eq y (get_or zs k (pos 0))) refl)
  where
    none : (k : ℕ) → k < length zs → (b : Bool) → int_eq y (get_or zs k (pos 0)) ≡ b → int_eq y (get_or zs k (pos 0)) ≡ false
    none k l false f = f
    none k l true f = let P : ℤ → Type 0 = λ z. IsWithin span z in absurd (out (subst P (eq_items y (get_or zs k (pos 0)) f) (h k (pos 0) l)))
