use Rattle.std.proofs.Common.{rules, to_z, of_z, ◌∙◌, w64}
use Rattle.std.proofs.lemmas.Int.{to_z-of_z}
use mir.Val.{SFits}
use Rattle.apl_folds.proofs.Totals.{sum_before}
use Rattle.apl_folds.proofs.steps.SureStep.step.Goals as goal

pub returns : goal.returns
returns c =
    λ z rest room e.
    let fits : SFits w64 c.add.result = search rules in
    let added = simp (to_z-of_z, c.ranges.number, c.ranges.known) at c.add.ensures in
    sum_before rest c.args.number c.args.known (to_z w64 (of_z w64 c.add.result)) room e (λ f. to_z-of_z w64 c.add.result fits ∙ added f)
