use Rattle.std.proofs.Common.{◌≡◌, ◌<◌, ℕ, length, rules, Ok}
use Rattle.apl_scalar.proofs.Filling.{fill_step}
use Rattle.apl_scalar.proofs.in_narrow.InNarrow.fill_divided.Goals as goal

pub loop-i-preserved : goal.loop-i-preserved
loop-i-preserved g c h =
    let f = λ (k : ℕ). g.Self.Scalar.meaning (g.X.Line.number c.args.x k) (g.Y.Line.number c.args.y k) in
    let within : c.loop-i.i < length c.loop-i.out = search rules in
    let value = rw (c.at.ensures, c.at-in-loop-i.ensures) at c.divided-value.ensures in
    let neither = c.either-flags.ensures.neither h in
    fill_step g.L.Lane.value g.L.Lane.numbers g.met.L.Lane.each (λ k z. f k ≡ Ok z) c.loop-i.i c.loop-i.out c.divided-value.result.0 within (c.loop-i.invariant neither.0) (value neither.1)
