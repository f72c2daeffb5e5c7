use Rattle.std.proofs.Common.{◌<◌, ◌^◌, FitsSigned, pos, arith, w64}
use Rattle.std.proofs.lemmas.Int.{ints, to_z-of_z}
use mir.Val.{SFits}
use Rattle.apl_operators.proofs.SumsOfProducts.{fit_by_bounds}
use Rattle.apl_operators.proofs.bounds.fit_together.Goals as goal

pub returns : goal.returns
returns g c = λ t xs ys within_x within_y.
    let small : c.saturating_mul-all.result < 2 ^ 63 = c.if-all-ge-EXACT.false in
    let fits : SFits w64 (pos c.saturating_mul-all.result) = omega (arith, ints) in
    let held : FitsSigned g.M.Lane.width (pos c.saturating_mul-all.result) = c.holds.ensures t (pos c.saturating_mul-all.result) (omega (arith, ints)) (simp (to_z-of_z, fits) (omega (arith, ints))) in
    fit_by_bounds g.M.Lane.width xs ys c.args.left c.args.right c.args.count c.saturating_mul-most.result c.saturating_mul-all.result within_x within_y c.saturating_mul-most.ensures c.saturating_mul-all.ensures small held
