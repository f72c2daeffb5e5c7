use Rattle.std.proofs.Common.{◌≡◌, ℤ, ◌*ℤ◌, ◌≤◌, FitsSigned, to_z, of_z, lit<, sym, ◌∙◌, subst, arith, rules, w8, w64}
use Rattle.std.specs.Prelude.{unsigned_abs}
use Rattle.std.specs.Int.{w16}
use Rattle.std.proofs.lemmas.Int.{ints, to_z-of_z}
use Rattle.apl_scalar.proofs.Widths.{low_value, low_none}
use Rattle.apl_scalar.proofs.WideProducts.{product_args, product_in, same_bits, bits_same}
use Rattle.apl_scalar.proofs.computed.I8Computed.flagged_product.Goals as goal

small : (z : ℤ) → FitsSigned w8 z → unsigned_abs z ≤ 128
small z f = omega (arith, ints)

pub returns-clause-value : goal.returns-clause-value
returns-clause-value c h =
    let x = c.args.x in
    let y = c.args.y in
    let a : c.from.result ≡ x = c.from.ensures ∙ to_z-of_z w8 x c.ranges.x in
    let b : c.from-2.result ≡ y = c.from-2.ensures ∙ to_z-of_z w8 y c.ranges.y in
    let same : to_z w16 (of_z w16 (to_z w16 (of_z w16 c.from.result) *ℤ to_z w16 (of_z w16 c.from-2.result))) ≡ x *ℤ y =
    product_in w16 128 c.from.result c.from-2.result x y (lit< tt) (lit< tt) (small x c.ranges.x) (small y c.ranges.y) a b in
    let fits : FitsSigned w16 c.from-4.result = search rules in
    let fits_wide : FitsSigned w64 (to_z w8 (of_z w8 c.low-low.result)) = omega (arith, ints) in
    low_value w8 (x *ℤ y) (to_z w8 (of_z w8 c.low-low.result)) _ fits_wide
    (λ t. sym c.from-4.ensures ∙ sym (to_z-of_z w16 c.from-4.result fits) ∙ same_bits w16 (of_z w16 c.from-4.result) (of_z w16 (to_z w16 (of_z w16 c.from.result) *ℤ to_z w16 (of_z w16 c.from-2.result))) t ∙ same) h

pub returns-clause-none : goal.returns-clause-none
returns-clause-none c h =
    let x = c.args.x in
    let y = c.args.y in
    let a : c.from.result ≡ x = c.from.ensures ∙ to_z-of_z w8 x c.ranges.x in
    let b : c.from-2.result ≡ y = c.from-2.ensures ∙ to_z-of_z w8 y c.ranges.y in
    let args : to_z w16 (of_z w16 c.from.result) *ℤ to_z w16 (of_z w16 c.from-2.result) ≡ x *ℤ y =
    product_args w16 128 c.from.result c.from-2.result x y (lit< tt) (small x c.ranges.x) (small y c.ranges.y) a b in
    let same : to_z w16 (of_z w16 (to_z w16 (of_z w16 c.from.result) *ℤ to_z w16 (of_z w16 c.from-2.result))) ≡ x *ℤ y =
    product_in w16 128 c.from.result c.from-2.result x y (lit< tt) (lit< tt) (small x c.ranges.x) (small y c.ranges.y) a b in
    let fits : FitsSigned w8 c.low-low.result = search rules in
    let fits_wide : FitsSigned w64 c.from-3.result = search rules in
    let wide : to_z w64 (of_z w64 c.from-3.result) ≡ x *ℤ y = to_z-of_z w64 c.from-3.result fits_wide ∙ c.from-3.ensures ∙ same in
    low_none w8 (x *ℤ y) _
    (λ f. bits_same w16 c.from-4.result (to_z w16 (of_z w16 c.from.result) *ℤ to_z w16 (of_z w16 c.from-2.result))
    (c.from-4.ensures ∙ to_z-of_z w8 c.low-low.result fits ∙ c.low-low.ensures (subst (λ z. FitsSigned w8 z) (sym wide) f) ∙ wide ∙ sym args)) h
