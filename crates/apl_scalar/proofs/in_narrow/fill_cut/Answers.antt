use Rattle.std.proofs.Common.{◌≡◌, ◌<◌, length, rules, Ok}
use Rattle.apl_scalar.proofs.Filling.{fill_step}
use Rattle.apl_scalar.proofs.in_narrow.fill_cut.Goals as goal

pub loop-i-preserved : goal.loop-i-preserved
loop-i-preserved g c =
    let within : c.loop-i.i < length c.loop-i.out = search rules in
    fill_step g.L.Lane.value g.L.Lane.numbers g.met.L.Lane.each (λ k z. g.F.Scalar.meaning (g.X.Line.number c.args.x k) (g.Y.Line.number c.args.y k) ≡ Ok z)
    c.loop-i.i c.loop-i.out c.in-Some.value within c.loop-i.invariant (rw (c.at.ensures, c.at-in-loop-i.ensures) at c.in-Some.ensures.value)
