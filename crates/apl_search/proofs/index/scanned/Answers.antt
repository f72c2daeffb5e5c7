use Rattle.std.proofs.Common.{◌≡◌, ℤ, pos, Bool, true, false, get_or, of_z, to_z, w64, FitsSigned, ap, sym, ◌∙◌, refl, rules, arith}
use Rattle.std.specs.Ordering.{int_eq}
use Rattle.std.proofs.lemmas.Int.{to_z-of_z}
use borrow.Author.Count.{below_more}
use Rattle.apl_arrays.specs.Numbers.{values}
use Rattle.apl_search.proofs.Firsts.{eq_items, first_at, first_none, itself}
use Rattle.apl_search.proofs.index.scanned.Goals as goal

differ : (x y : ℤ) → (x ≡ y → ⊥) → int_eq y x ≡ false
differ x y ne = each (int_eq y x) refl
  where
    each : (b : Bool) → int_eq y x ≡ b → int_eq y x ≡ false
    each false e = e
    each true e = absurd (ne (eq_items y x e))

pub loop-place-preserved : goal.loop-place-preserved
loop-place-preserved c =
    let zs = values c.args.numbers in
    let number = to_z w64 (of_z w64 c.args.number) in
    below_more (λ k. int_eq number (get_or zs k (pos 0)) ≡ false) c.loop-place.place c.loop-place.invariant
    (differ (get_or zs c.loop-place.place (pos 0)) number (λ e. c.if-at-number.false (ap (of_z w64) (c.at.ensures ∙ e ∙ to_z-of_z w64 c.args.number c.ranges.number))))

pub returns-then-at-number-clause-value : goal.returns-then-at-number-clause-value
returns-then-at-number-clause-value c =
    let zs = values c.args.numbers in
    let fits : FitsSigned w64 c.at.result = search rules in
    let own = to_z-of_z w64 c.args.number c.ranges.number in
    let here = sym c.at.ensures ∙ sym (to_z-of_z w64 c.at.result fits) ∙ ap (to_z w64) c.if-at-number.true ∙ own in
    sym (first_at (int_eq c.args.number) zs c.loop-place.place (pos 0) (omega arith) (ap (int_eq c.args.number) here ∙ itself c.args.number)
    (λ k h. ap (λ z. int_eq z (get_or zs k (pos 0))) (sym own) ∙ c.loop-place.invariant k h))

pub returns-clause-value : goal.returns-clause-value
returns-clause-value c =
    let zs = values c.args.numbers in
    c.len.ensures
    ∙ sym (first_none (int_eq c.args.number) zs (pos 0) (λ k h. ap (λ z. int_eq z (get_or zs k (pos 0))) (sym (to_z-of_z w64 c.args.number c.ranges.number)) ∙ c.loop-place.invariant k (omega arith)))
