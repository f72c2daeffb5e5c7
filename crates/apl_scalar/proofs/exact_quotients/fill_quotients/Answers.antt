use Rattle.std.proofs.Common.{◌≡◌, ◌*◌, ◌^◌, ◌<◌, ◌/◌, arith}
use Rattle.std.specs.Int.{w64, trailing_zeros}
use Rattle.std.proofs.lemmas.Nat.{shr_split}
use Rattle.std.proofs.lemmas.Nat.Bits.{bit_at-trailing_zeros}
use Rattle.apl_scalar.proofs.Exact.{reach_low}
use Rattle.apl_scalar.proofs.exact_quotients.fill_quotients.Goals as goal

pub fill_by-requires-2-clause-by : goal.fill_by-requires-2-clause-by
fill_by-requires-2-clause-by g c =
    let d = c.args.divisor in
    let s = trailing_zeros w64 d in
    let some : 0 < d = omega (arith, c.requires.divisor.0) in
    let whole : d / 2 ^ s * 2 ^ s ≡ d = omega (arith, shr_split d s, c.if-odd-shift.false, c.ranges.divisor.fits) in
    let low : c.half_for-half.result * 2 ^ s < 2 ^ 63 = reach_low d s c.half_for-half.result whole some c.half_for-half.ensures in
    record { inverse = c.in-Some.ensures; whole = whole; some = some; shift = (bit_at-trailing_zeros w64 d some c.ranges.divisor.fits).0; half = c.half_for-half.ensures; reach = omega arith }
