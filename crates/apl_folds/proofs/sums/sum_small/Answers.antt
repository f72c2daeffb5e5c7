use Rattle.std.proofs.Common.{rules, pos, w64, get_or}
use Rattle.std.proofs.lemmas.Int.{to_z-of_z}
use mir.Val.{SFits, to_z}
use Rattle.apl_folds.proofs.Totals.{small_step}
use Rattle.apl_folds.proofs.sums.sum_small.Goals as goal

pub loop-number-preserved : goal.loop-number-preserved
loop-number-preserved c h =
    let fits : SFits w64 c.add-sum.result = search rules in
    let fits_number : SFits w64 (get_or c.args.numbers.now c.loop-number.number-index (pos 0)) = search rules in
    simp to_z-of_z (small_step c.args.numbers.now c.loop-number.number-index (to_z w64 c.loop-number.sum-bits) c.add-sum.result c.loop-number.bound c.spread.result c.wider-bound.result c.loop-number.invariant (simp to_z-of_z at c.add-sum.ensures) (simp to_z-of_z at c.spread.ensures) c.wider-bound.ensures.x c.wider-bound.ensures.y c.loop-number-test.true c.requires h)
