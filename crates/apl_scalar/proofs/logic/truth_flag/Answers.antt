use Rattle.std.proofs.Common.{◌≡◌, ◌<◌, ◌/◌, ◌^◌, arith, of_z}
use Rattle.std.specs.Prelude.{bit_or}
use Rattle.std.specs.Int.{w64}
use Rattle.std.proofs.lemmas.Int.{ints, to_z-of_z}
use Rattle.std.proofs.lemmas.Nat.{or_lt}
use Rattle.apl_scalar.proofs.Truths.{truths_by_bits, zero_flag}
use Rattle.apl_scalar.proofs.logic.truth_flag.Goals as goal

pub overflow_cast-result : goal.overflow_cast-result
overflow_cast-result c =
    let h : bit_or c.cast_unsigned.result c.cast_unsigned-2.result < 2 ^ 64 = or_lt 64 c.cast_unsigned.result c.cast_unsigned-2.result (omega arith) (omega arith) in
    omega (arith, ints)

pub overflow_sub-result : goal.overflow_sub-result
overflow_sub-result c =
    let h : bit_or c.cast_unsigned.result c.cast_unsigned-2.result < 2 ^ 64 = or_lt 64 c.cast_unsigned.result c.cast_unsigned-2.result (omega arith) (omega arith) in
    omega (arith, ints)

pub returns-clause-fits : goal.returns-clause-fits
returns-clause-fits c k =
    let h : bit_or c.cast_unsigned.result c.cast_unsigned-2.result < 2 ^ 64 = or_lt 64 c.cast_unsigned.result c.cast_unsigned-2.result (omega arith) (omega arith) in
    let x : c.cast_unsigned.result ≡ of_z w64 c.args.x = simp (to_z-of_z, c.ranges.x) at c.cast_unsigned.ensures in
    let y : c.cast_unsigned-2.result ≡ of_z w64 c.args.y = simp (to_z-of_z, c.ranges.y) at c.cast_unsigned-2.ensures in
    let none : bit_or c.cast_unsigned.result c.cast_unsigned-2.result / 2 ≡ 0 = zero_flag (bit_or c.cast_unsigned.result c.cast_unsigned-2.result / 2) (omega arith) k in
    truths_by_bits c.args.x c.args.y c.ranges.x c.ranges.y (rw (x, y) at none)
