use Rattle.std.proofs.Common.{ℤ, pos, FitsSigned, get_or, subst, sym}
use Rattle.apl_scalar.proofs.OfLanes.{number_of_item}
use Rattle.apl_folds.proofs.Told.{one_more}
use Rattle.apl_folds.proofs.lanes.most.Goals as goal

pub loop-number-preserved : goal.loop-number-preserved
loop-number-preserved g c =
    let value = g.L.Lane.value in
    let Fits : ℤ → Type 0 = λ z. FitsSigned g.L.Lane.width z in
    let i = c.loop-number.number-index in
    one_more (λ k. Fits (get_or (g.L.Lane.numbers c.args.numbers.now) k (pos 0))) i
    (subst Fits (sym (number_of_item value g.L.Lane.numbers g.met.L.Lane.each c.args.numbers.now i c.number-item.result c.loop-number-test.true c.number-item.is)) c.wide-number.ensures.fits)
    c.loop-number.invariant
