use Rattle.std.proofs.Common.{length, arith, ◌∙◌, ◌<◌, ◌/◌}
use Rattle.std.proofs.Math.Nat.{mul-le-mul_right}
use Rattle.apl_arrays.proofs.Nth.{row_below}
use Rattle.apl_operators.proofs.Meeting.{left_within, right_within, met_by_steps}
use Rattle.apl_operators.proofs.inner_product.meet_at.Goals as goal

pub overflow_mul-left : goal.overflow_mul-left
overflow_mul-left g c =
    let below : c.args.place / c.args.joint.now.columns < c.args.joint.now.rows = row_below c.args.joint.now.rows c.args.joint.now.columns c.args.place c.requires.place in
    record { fits = omega (arith, c.requires.joint.left, mul-le-mul_right {m = c.args.place / c.args.joint.now.columns} {n = c.args.joint.now.rows} c.args.joint.now.left (omega arith)) }

pub meet-requires-clause-x : goal.meet-requires-clause-x
meet-requires-clause-x g c = λ k h. rw c.step_of.ensures (left_within c.args.joint.now (length c.args.xs.now) (length c.args.ys.now) c.args.place k c.requires.joint c.requires.place (omega arith))

pub meet-requires-clause-y : goal.meet-requires-clause-y
meet-requires-clause-y g c = λ k h. rw c.step_of-2.ensures (right_within c.args.joint.now (length c.args.xs.now) (length c.args.ys.now) c.args.place k c.requires.joint c.requires.place (omega arith))

pub returns : goal.returns
returns g c =
    met_by_steps g.F.Attempt.meaning c.args.xs.now c.args.ys.now c.args.joint.now c.args.place (length c.args.row.now) c.step_of.result c.step_of-2.result c.requires.row c.step_of.ensures c.step_of-2.ensures
    ∙ c.meet.ensures
