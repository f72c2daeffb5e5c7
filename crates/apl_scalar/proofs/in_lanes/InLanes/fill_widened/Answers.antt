use Rattle.std.proofs.Common.{◌≡◌, ◌<◌, length, rules, Ok}
use Rattle.apl_scalar.proofs.Filling.{fill_step}
use Rattle.apl_scalar.proofs.in_lanes.InLanes.fill_widened.Goals as goal

pub loop-i-preserved : goal.loop-i-preserved
loop-i-preserved g c =
    let lane = g.L.Wider.Lane in
    let within : c.loop-i.i < length c.loop-i.out = search rules in
    fill_step lane.value lane.numbers g.met.L.Wider.Lane.each (λ k z. g.Self.Scalar.meaning (g.X.Line.number c.args.x k) (g.Y.Line.number c.args.y k) ≡ Ok z)
    c.loop-i.i c.loop-i.out c.widened.result within c.loop-i.invariant (rw (c.at.ensures, c.at-in-loop-i.ensures) at c.widened.ensures)
