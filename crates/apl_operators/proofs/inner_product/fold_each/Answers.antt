use Rattle.std.proofs.Common.{◌*◌, ap, sym, ◌∙◌, arith}
use Rattle.std.proofs.lemmas.Result.{err_from_is_err_and}
use Rattle.apl_operators.specs.Joints.{met, so_far}
use Rattle.apl_operators.proofs.Folding.{folds_step, folds_fault, folds_end}
use Rattle.apl_operators.proofs.inner_product.fold_each.Goals as goal

pub loop-place-preserved : goal.loop-place-preserved
loop-place-preserved g c =
    folds_step c.args.function (met g.F.Attempt.meaning c.args.xs.now c.args.ys.now c.args.joint.now) c.loop-place.out.items _ c.loop-place.refused _ c.meet_at.new.row c.loop-place.place (c.args.joint.now.rows * c.args.joint.now.columns) (omega arith)
    c.in_ok-meet_at.ensures c.in_ok-refused.ensures
    ∙ c.loop-place.invariant

pub returns-in_err-meet_at : goal.returns-in_err-meet_at
returns-in_err-meet_at g c =
    let p = err_from_is_err_and c.from_residual-in_err-meet_at.result c.from_residual-in_err-meet_at.ensures.1 in
    rw (p.1, p.2)
    (sym c.loop-place.invariant
    ∙ folds_fault c.args.function (met g.F.Attempt.meaning c.args.xs.now c.args.ys.now c.args.joint.now) c.loop-place.out.items c.loop-place.refused c.in_err-meet_at.field-0.0 c.loop-place.place (c.args.joint.now.rows * c.args.joint.now.columns) (omega arith) c.in_err-meet_at.ensures)

pub returns-in-None : goal.returns-in-None
returns-in-None g c =
    sym c.loop-place.invariant
    ∙ folds_end c.args.function (met g.F.Attempt.meaning c.args.xs.now c.args.ys.now c.args.joint.now) c.loop-place.out.items c.loop-place.refused c.loop-place.place (c.args.joint.now.rows * c.args.joint.now.columns) (omega arith)
    ∙ ap (so_far c.loop-place.out.items) c.in-None.is
