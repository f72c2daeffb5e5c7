use Rattle.std.proofs.Common.{◌≡◌, ◌*ℤ◌, FitsSigned, ◌∙◌, w64}
use Rattle.std.specs.Bool.{FalseIff}
use Rattle.std.specs.Int.{int_wrapping_mul}
use Rattle.std.proofs.lemmas.Int.{to_z-of_z, wrapping_mul_is}
use Rattle.apl_scalar.proofs.Signs.{tried_product, left_product}
use Rattle.apl_scalar.proofs.overflow.flagged_product.Goals as goal

pub returns-clause-fits : goal.returns-clause-fits
returns-clause-fits c h =
    let value : c.overflowing_mul-product.result.0 ≡ int_wrapping_mul w64 c.args.x c.args.y = simp (to_z-of_z, c.ranges.x, c.ranges.y) at c.overflowing_mul-product.ensures.value in
    let leaves : FalseIff c.overflowing_mul-product.result.1 (FitsSigned w64 (c.args.x *ℤ c.args.y)) = simp (to_z-of_z, c.ranges.x, c.ranges.y) at c.overflowing_mul-product.ensures.overflow in
    tried_product (c.args.x *ℤ c.args.y) c.overflowing_mul-product.result.0 c.overflowing_mul-product.result.1 (value ∙ wrapping_mul_is w64 c.args.x c.args.y c.ranges.x c.ranges.y) leaves h

pub returns-clause-leaves : goal.returns-clause-leaves
returns-clause-leaves c h =
    let leaves : FalseIff c.overflowing_mul-product.result.1 (FitsSigned w64 (c.args.x *ℤ c.args.y)) = simp (to_z-of_z, c.ranges.x, c.ranges.y) at c.overflowing_mul-product.ensures.overflow in
    left_product (c.args.x *ℤ c.args.y) c.overflowing_mul-product.result.1 leaves h
