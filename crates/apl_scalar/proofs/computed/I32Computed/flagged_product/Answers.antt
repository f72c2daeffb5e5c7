use Rattle.std.proofs.Common.{◌≡◌, ℤ, ◌*ℤ◌, ◌≤◌, ◌%◌, ◌^◌, FitsSigned, to_z, of_z, lit<, Ok, ap, sym, ◌∙◌, subst, arith, rules, w32, w64}
use Rattle.std.specs.Prelude.{unsigned_abs, bit_and, ◌-◌, ◌<◌}
use Rattle.std.proofs.lemmas.Int.{ints, to_z-of_z, of_z-to_z}
use Rattle.std.proofs.lemmas.Nat.{and_mask}
use Rattle.apl_scalar.proofs.Widths.{in_range_is}
use Rattle.apl_scalar.proofs.WideProducts.{product_in, product_in_range, half_value, half_none}
use Rattle.apl_scalar.proofs.computed.I32Computed.flagged_product.Goals as goal

small : (z : ℤ) → FitsSigned w32 z → unsigned_abs z ≤ 2 ^ 31
small z f = omega (arith, ints)

-- the number of the low half of a number of 64 bits
low_bits : (z s : ℤ) → s ≡ to_z w32 (bit_and (of_z w64 z) (2 ^ 32 - 1)) → of_z w32 (to_z w32 (of_z w32 s)) ≡ of_z w64 z % 2 ^ 32
low_bits z s e =
    let m : of_z w64 z % 2 ^ 32 < 2 ^ 32 = omega arith in
    let l : s ≡ to_z w32 (of_z w64 z % 2 ^ 32) = e ∙ ap (to_z w32) (and_mask (of_z w64 z) 32) in
    let b : of_z w32 s ≡ of_z w64 z % 2 ^ 32 = ap (of_z w32) l ∙ of_z-to_z w32 (of_z w64 z % 2 ^ 32) m in
    ap (λ n. of_z w32 (to_z w32 n)) b ∙ of_z-to_z w32 (of_z w64 z % 2 ^ 32) m

pub returns-clause-value : goal.returns-clause-value
returns-clause-value c h =
    let x = c.args.x in
    let y = c.args.y in
    let a : c.from.result ≡ x = c.from.ensures ∙ to_z-of_z w32 x c.ranges.x in
    let b : c.from-2.result ≡ y = c.from-2.ensures ∙ to_z-of_z w32 y c.ranges.y in
    let z = to_z w64 (of_z w64 (to_z w64 (of_z w64 c.from.result) *ℤ to_z w64 (of_z w64 c.from-2.result))) in
    let s = to_z w32 (of_z w32 c.cast_signed-low.result) in
    let fits : FitsSigned w64 z = omega (arith, ints) in
    let fits_low : FitsSigned w32 s = omega (arith, ints) in
    let fits_flag : FitsSigned w32 c.wrapping_neg.result = search rules in
    let bits : of_z w32 s ≡ of_z w64 z % 2 ^ 32 = low_bits z c.cast_signed-low.result (c.cast_signed-low.ensures ∙ ap (λ n. to_z w32 (bit_and n (2 ^ 32 - 1))) c.cast_unsigned.ensures) in
    let whole : s ≡ z = half_value z s c.wrapping_neg.result fits fits_low fits_flag bits c.wrapping_neg.ensures h in
    product_in_range (2 ^ 31) c.from.result c.from-2.result x y (lit< tt) (lit< tt) (small x c.ranges.x) (small y c.ranges.y) a b ∙ ap (λ (v : ℤ). Ok v) (sym whole)

pub returns-clause-none : goal.returns-clause-none
returns-clause-none c h v e f =
    let x = c.args.x in
    let y = c.args.y in
    let a : c.from.result ≡ x = c.from.ensures ∙ to_z-of_z w32 x c.ranges.x in
    let b : c.from-2.result ≡ y = c.from-2.ensures ∙ to_z-of_z w32 y c.ranges.y in
    let z = to_z w64 (of_z w64 (to_z w64 (of_z w64 c.from.result) *ℤ to_z w64 (of_z w64 c.from-2.result))) in
    let s = to_z w32 (of_z w32 c.cast_signed-low.result) in
    let same : z ≡ x *ℤ y = product_in w64 (2 ^ 31) c.from.result c.from-2.result x y (lit< tt) (lit< tt) (small x c.ranges.x) (small y c.ranges.y) a b in
    let fits : FitsSigned w32 z = subst (λ n. FitsSigned w32 n) (sym (same ∙ in_range_is (x *ℤ y) v e)) f in
    let fits_low : FitsSigned w32 s = omega (arith, ints) in
    let bits : of_z w32 s ≡ of_z w64 z % 2 ^ 32 = low_bits z c.cast_signed-low.result (c.cast_signed-low.ensures ∙ ap (λ n. to_z w32 (bit_and n (2 ^ 32 - 1))) c.cast_unsigned.ensures) in
    half_none z s c.wrapping_neg.result fits fits_low bits c.wrapping_neg.ensures h
