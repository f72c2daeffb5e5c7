use Rattle.std.proofs.Common.{◌≡◌, ◌≤ℤ◌, ◌+◌, ◌*◌, pos, Ok, FitsSigned, w8, ap, sym, ◌∙◌, arith, rules}
use Rattle.std.specs.Prelude.{unsigned_abs}
use Rattle.std.proofs.lemmas.Int.{to_z-of_z}
use Rattle.apl_scalar.proofs.Bytes.{quotient_of}
use Rattle.apl_scalar.proofs.divisible.I8Divisible.tried_quotient.Goals as goal

pub returns : goal.returns
returns c h =
    let by = c.divided-quotient in
    let fits : FitsSigned w8 c.either.result = search rules in
    let fits_value : FitsSigned w8 c.with_sign.result = search rules in
    let flag : pos 0 ≤ℤ c.either.result = simp (to_z-of_z, fits) at h in
    let neither = c.either.ensures.neither flag in
    let fits_below : FitsSigned w8 c.none_below.result = search rules in
    let below = c.none_below.ensures (simp (to_z-of_z, fits_below) at neither.1) in
    let same : pos c.some_divisor.result ≡ c.args.y = c.some_divisor.ensures.same below ∙ to_z-of_z w8 c.args.y c.ranges.y in
    let x = to_z-of_z w8 c.args.x c.ranges.x in
    let fits_left : FitsSigned w8 c.some_left.result = search rules in
    let none : by.result.1 ≡ 0 = c.some_left.ensures (simp (to_z-of_z, fits_left) at neither.0) in
    let magnitude : c.unsigned_abs.result ≡ unsigned_abs c.args.x = rw x at c.unsigned_abs.ensures.value in
    let whole : by.result.0 * c.some_divisor.result + by.result.1 ≡ unsigned_abs c.args.x = omega (arith, by.ensures.whole, magnitude) in
    quotient_of c.args.x c.args.y c.with_sign.result by.result.0 c.some_divisor.result by.result.1 c.ranges.x fits_value c.some_divisor.ensures.some.0 same none whole (rw x at c.with_sign.ensures.up) (rw x at c.with_sign.ensures.down)
    ∙ ap (λ z. Ok z) (sym (to_z-of_z w8 c.with_sign.result fits_value))
