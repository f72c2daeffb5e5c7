use Rattle.std.proofs.Common.{◌≡◌, Ok, FitsSigned, w8, w64, subst, sym, ◌∙◌, rules, arith}
use Rattle.std.proofs.lemmas.Int.{to_z-of_z}
use Rattle.apl_scalar.specs.Functions.{logical}
use Rattle.apl_scalar.specs.Operands.{IsTruth}
use Rattle.apl_scalar.proofs.Exact.{each_step}
use Rattle.apl_scalar.proofs.Truths.{logical_value, no_truths_at}
use Rattle.apl_scalar.proofs.logic.LogicalTells.fill_told.Goals as goal

pub loop-i-preserved : goal.loop-i-preserved
loop-i-preserved g c =
    let f = g.C.Connective.meaning in
    let x = g.X.Line.number c.args.x in
    let y = g.Y.Line.number c.args.y in
    let i = c.loop-i.i in
    let fits : FitsSigned w8 c.told_bits.result = search rules in
    let fits_x : FitsSigned w64 c.wide.result = search rules in
    let fits_y : FitsSigned w64 c.wide-in-loop-i.result = search rules in
    record {
      values = λ t.
          let both = c.either-all.ensures.truths t in
          let here = c.either.ensures.truths both.1 in
          each_step (λ k v. logical f (x k) (y k) ≡ Ok v) i c.loop-i.out _ (search rules) (c.loop-i.invariant.values both.0)
          (logical_value f (x i) (y i) _ (subst IsTruth c.at-in-loop-i-2.ensures here.0) (subst IsTruth c.at-in-loop-i-3.ensures here.1)
          (λ p q d e. to_z-of_z w8 c.told_bits.result fits
          ∙ c.told_bits.ensures p q (to_z-of_z w64 c.wide.result fits_x ∙ c.wide.ensures.value ∙ c.at.ensures ∙ d)
          (to_z-of_z w64 c.wide-in-loop-i.result fits_y ∙ c.wide-in-loop-i.ensures.value ∙ c.at-in-loop-i.ensures ∙ e)));
      none = λ h.
          no_truths_at f x y i (g.L.Lane.value c.loop-i.all) (g.L.Lane.value c.either.result) (g.L.Lane.value c.either-all.result) h c.either-all.ensures.others
          (λ p q. c.either.ensures.others (subst IsTruth (sym c.at-in-loop-i-2.ensures) p) (subst IsTruth (sym c.at-in-loop-i-3.ensures) q)) c.loop-i.invariant.none;
    }

pub returns-clause-values : goal.returns-clause-values
returns-clause-values g c t k h =
    let fits : FitsSigned w64 c.wide-2.result = search rules in
    c.loop-i.invariant.values (subst IsTruth (to_z-of_z w64 c.wide-2.result fits ∙ c.wide-2.ensures.value) (c.is_truth.ensures.yes t)) k (omega (arith, h, c.loop-i-test.false))
