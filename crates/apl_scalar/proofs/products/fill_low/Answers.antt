use Rattle.std.proofs.Common.{◌≡◌, ◌<◌, length, ◌*ℤ◌, FitsSigned, Ok, arith, rules, w64}
use Rattle.std.proofs.lemmas.Int.{to_z-of_z}
use Rattle.apl_scalar.specs.Functions.{in_range}
use Rattle.apl_scalar.proofs.Exact.{each_step}
use Rattle.apl_scalar.proofs.products.fill_low.Goals as goal

pub loop-i-preserved : goal.loop-i-preserved
loop-i-preserved g c h =
    let fits_x : FitsSigned w64 c.at.result = search rules in
    let fits_y : FitsSigned w64 c.at-in-loop-i.result = search rules in
    let fits : FitsSigned w64 c.low_product-product.result.0 = search rules in
    let within : c.loop-i.i < length c.loop-i.out = search rules in
    let now : in_range (c.at.result *ℤ c.at-in-loop-i.result) ≡ Ok c.low_product-product.result.0 = simp (to_z-of_z, fits_x, fits_y) at (c.low_product-product.ensures (omega (arith, c.wider-far.ensures.y))) in
    simp (to_z-of_z, fits)
    (each_step (λ k z. in_range (g.X.Line.number c.args.x k *ℤ g.Y.Line.number c.args.y k) ≡ Ok z) c.loop-i.i c.loop-i.out c.low_product-product.result.0 within
    (c.loop-i.invariant (omega (arith, c.wider-far.ensures.x))) (rw (c.at.ensures, c.at-in-loop-i.ensures) at now))
