use Rattle.std.proofs.Common.{◌≡◌, length, refl, rules, arith}
use Rattle.apl_scalar.proofs.Whole.{all_values}
use Rattle.apl_operators.proofs.line.meet.Goals as goal

pub returns-then-fill : goal.returns-then-fill
returns-then-fill g c =
    let size : length c.fill.new.out ≡ length c.args.out.now = search rules in
    all_values (λ k. g.F.Attempt.meaning (g.X.Line.number c.args.x.now k) (g.Y.Line.number c.args.y.now k)) c.fill.new.out (length c.args.out.now) size
    (λ k h. c.if-fill.ensures.values refl k (omega arith))
