-- Marks of numbers: how they are made and what they say.
use Rattle.std.proofs.Common.{◌≡◌, ◌≢◌, ℕ, ℤ, pos, ◌+◌, ◌<◌, ◌+ℤ◌, Bool, true, false, nat_lt, List, length, get_or, set, take, ap, sym, ◌∙◌, arith, refl}
use Rattle.std.specs.Prelude.{◌||◌}
use Rattle.std.specs.Ordering.{int_eq}
use Rattle.std.specs.List.{All, list_any}
use Rattle.std.proofs.Math.Bool.{or-false}
use Rattle.std.proofs.lemmas.Bool.{le-ltb}
use Rattle.std.proofs.lemmas.Int.{ints}
use Rattle.std.proofs.lemmas.List.{get_or-set_same, get_or-set_other, length-set}
use Rattle.std.proofs.lemmas.List.Folds.{list_any_more}
use Rattle.apl_search.specs.declared.table.Span.{Span}
use Rattle.apl_search.specs.inside.Tables.{AreMarks, IsWithin}
use Rattle.apl_search.proofs.Firsts.{eq_items, itself}
use Rattle.apl_search.proofs.Lookups.{any_by_place}
use Rattle.apl_search.proofs.Tables.{outside}

or_true : (b : Bool) → (b || true) ≡ true
or_true true = refl
or_true false = refl

-- the slot of one number more is marked
pub marked : (smallest : ℤ) (marks : List Bool) (n slot : ℕ) (zs : List ℤ) → AreMarks smallest marks (take n zs) → n < length zs → slot < length marks →
    smallest +ℤ pos slot ≡ get_or zs n (pos 0) → AreMarks smallest (set marks slot true) (take (n + 1) zs)
marked smallest marks n slot zs h l s e = λ k m.
    each k (h k (omega (arith, length-set marks slot true))) (int_eq (smallest +ℤ pos k) (get_or zs n (pos 0))) refl ∙ sym (list_any_more (int_eq (smallest +ℤ pos k)) zs n (pos 0) l)
  where
    each : (k : ℕ) → get_or marks k false ≡ list_any (int_eq (smallest +ℤ pos k)) (take n zs) → (b : Bool) → int_eq (smallest +ℤ pos k) (get_or zs n (pos 0)) ≡ b →
        get_or (set marks slot true) k false ≡ (list_any (int_eq (smallest +ℤ pos k)) (take n zs) || int_eq (smallest +ℤ pos k) (get_or zs n (pos 0)))
    each k same true f =
        let number : get_or zs n (pos 0) ≡ smallest +ℤ pos k = eq_items (smallest +ℤ pos k) (get_or zs n (pos 0)) f in
        let at : k ≡ slot = omega (arith, ints) in
        rw at (get_or-set_same marks slot true false s)
        ∙ sym (ap (λ (b : Bool). list_any (int_eq (smallest +ℤ pos k)) (take n zs) || b) f ∙ or_true (list_any (int_eq (smallest +ℤ pos k)) (take n zs)))
    each k same false f =
        let other : k ≢ slot = λ q. absurd (cc (itself (smallest +ℤ pos k), ap (int_eq (smallest +ℤ pos k)) (ap (λ (j : ℕ). smallest +ℤ pos j) q ∙ e))) in
        get_or-set_other marks slot k true false other ∙ same
        ∙ sym (ap (λ (b : Bool). list_any (int_eq (smallest +ℤ pos k)) (take n zs) || b) f ∙ or-false (list_any (int_eq (smallest +ℤ pos k)) (take n zs)))

-- a number outside the span does not stand there
pub stands_not : (span : Span) (y : ℤ) (zs : List ℤ) → All (IsWithin span) zs → (IsWithin span y → ⊥) → list_any (int_eq y) zs ≡ false
stands_not span y zs h out = sym (any_by_place (int_eq y) zs) ∙ ap (λ (n : ℕ). nat_lt n (length zs)) (outside span y zs h out) ∙ le-ltb (length zs) (length zs) (omega arith)
