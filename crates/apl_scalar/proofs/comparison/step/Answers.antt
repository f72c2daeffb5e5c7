use Rattle.std.proofs.Common.{FitsSigned, w8, to_z, of_z, length-set, ◌∙◌, rules, arith}
use Rattle.apl_scalar.proofs.Verdicts.{verdict_next}
use Rattle.apl_scalar.proofs.comparison.step.Goals as goal

pub loop-i-preserved : goal.loop-i-preserved
loop-i-preserved g c =
    let fits : FitsSigned w8 c.verdict.result = search rules in
    record {
      size = length-set c.loop-i.verdicts c.loop-i.i (to_z w8 (of_z w8 c.verdict.result)) ∙ c.loop-i.invariant.size;
      told = verdict_next g.C.Comparison.meaning (g.X.Line.number c.args.x) (g.Y.Line.number c.args.y) c.loop-i.i c.loop-i.verdicts c.verdict.result _ _ (omega (arith, c.loop-i.invariant.size, c.loop-i-test.true)) fits
          c.verdict.ensures c.at.ensures c.at-in-loop-i.ensures c.loop-i.invariant.told;
    }
