use Rattle.std.proofs.Common.{◌≡◌, ◌≤◌, ◌^◌, lit<, arith}
use Rattle.std.specs.Prelude.{unsigned_abs}
use Rattle.std.proofs.lemmas.Int.{ints, to_z-of_z}
use Rattle.apl_scalar.proofs.WideProducts.{product_in_range}
use Rattle.apl_scalar.proofs.products.low_product.Goals as goal

pub returns : goal.returns
returns c h =
    let x : c.args.x ≡ c.low_half-low_x.result.0 = simp (to_z-of_z, c.ranges.x) at c.low_half-low_x.ensures (omega (arith, c.wider.ensures.x)) in
    let y : c.args.y ≡ c.low_half-low_y.result.0 = simp (to_z-of_z, c.ranges.y) at c.low_half-low_y.ensures (omega (arith, c.wider.ensures.y)) in
    let a : c.from.result ≡ c.args.x = grind (arith, ints) in
    let b : c.from-2.result ≡ c.args.y = grind (arith, ints) in
    let f : unsigned_abs c.args.x ≤ 2 ^ 31 = grind (arith, ints) in
    let g : unsigned_abs c.args.y ≤ 2 ^ 31 = grind (arith, ints) in
    product_in_range (2 ^ 31) c.from.result c.from-2.result c.args.x c.args.y (lit< tt) (lit< tt) f g a b
