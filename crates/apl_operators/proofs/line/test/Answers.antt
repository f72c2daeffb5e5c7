use Rattle.std.proofs.Common.{◌≡◌, ◌<◌, ℤ, length, Err, ap, sym, ◌∙◌, rules, arith, w64}
use Rattle.std.proofs.lemmas.Int.{to_z-of_z}
use mir.Val.{SFits}
use Rattle.apl_scalar.proofs.Whole.{all_values}
use Rattle.apl_folds.proofs.Faults.{first_fault}
use Rattle.apl_operators.proofs.line.test.Goals as goal

pub returns-in-Err : goal.returns-in-Err
returns-in-Err g c =
    let fits_x : SFits w64 c.at.result = search rules in
    let fits_y : SFits w64 c.at-in-loop-i.result = search rules in
    let here : Err c.in-Err.fault ≡ g.F.Attempt.meaning c.at.result c.at-in-loop-i.result = simp to_z-of_z at c.in-Err.ensures in
    let within : c.loop-i.i < length c.args.out.now = search rules in
    first_fault (λ k. g.F.Attempt.meaning (g.X.Line.number c.args.x.now k) (g.Y.Line.number c.args.y.now k)) c.loop-i.out c.in-Err.fault c.loop-i.i (length c.args.out.now) within c.loop-i.invariant
    (ap (λ (x : ℤ). g.F.Attempt.meaning x (g.Y.Line.number c.args.y.now c.loop-i.i)) (sym c.at.ensures) ∙ ap (λ (y : ℤ). g.F.Attempt.meaning c.at.result y) (sym c.at-in-loop-i.ensures) ∙ sym here)

pub returns : goal.returns
returns g c =
    let size : length c.loop-i.out ≡ length c.args.out.now = search rules in
    all_values (λ k. g.F.Attempt.meaning (g.X.Line.number c.args.x.now k) (g.Y.Line.number c.args.y.now k)) c.loop-i.out (length c.args.out.now) size
    (λ k h. c.loop-i.invariant k (omega arith))
