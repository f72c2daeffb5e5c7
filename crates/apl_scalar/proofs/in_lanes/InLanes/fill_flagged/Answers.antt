use Rattle.std.proofs.Common.{◌≡◌, ◌<◌, ℕ, length, rules, Ok}
use Rattle.apl_scalar.specs.Lanes.{HasNoneIn}
use Rattle.apl_scalar.proofs.Filling.{fill_step}
use Rattle.apl_scalar.proofs.Flags.{raised_at}
use Rattle.apl_scalar.proofs.in_lanes.InLanes.fill_flagged.Goals as goal

pub loop-i-preserved : goal.loop-i-preserved
loop-i-preserved g c =
    let f = λ (k : ℕ). g.Self.Scalar.meaning (g.X.Line.number c.args.x k) (g.Y.Line.number c.args.y k) in
    let i = c.loop-i.i in
    let within : i < length c.loop-i.out = search rules in
    let value = rw (c.at.ensures, c.at-in-loop-i.ensures) at c.flagged-value.ensures.value in
    let none = rw (c.at.ensures, c.at-in-loop-i.ensures) at c.flagged-value.ensures.none in (
      λ h. let neither = c.either-flags.ensures.neither h in
          fill_step g.L.Lane.value g.L.Lane.numbers g.met.L.Lane.each (λ k z. f k ≡ Ok z) i c.loop-i.out c.flagged-value.result.0 within (c.loop-i.invariant.0 neither.0) (value neither.1),
      λ h. raised_at (λ k. HasNoneIn g.L.Lane.width (f k)) i (g.L.Lane.value c.loop-i.flags) (g.L.Lane.value c.flagged-value.result.1) (c.either-flags.ensures.one h) c.loop-i.invariant.1 none,
    )
