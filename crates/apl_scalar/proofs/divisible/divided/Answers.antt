use Rattle.std.proofs.Common.{◌<◌, ◌+◌, ◌*◌, rules}
use Rattle.apl_scalar.proofs.Bytes.{next_bit, below_half}
use Rattle.apl_scalar.proofs.divisible.divided.Goals as goal

pub with_bit-more-requires-clause-quotient : goal.with_bit-more-requires-clause-quotient
with_bit-more-requires-clause-quotient c =
    let l : c.loop-place.place < 8 = search rules in
    below_half c.args.number c.loop-place.place c.loop-place.quotient c.args.divisor c.loop-place.rest l c.ranges.number.fits c.requires.0 c.loop-place.invariant.0

pub loop-place-preserved : goal.loop-place-preserved
loop-place-preserved c =
    let l : c.loop-place.place < 8 = search rules in
    (next_bit c.args.number c.loop-place.place (c.with_bit-more.result.0 * c.args.divisor + c.with_bit-more.result.1) l (rw c.loop-place.invariant.0 at c.with_bit-more.ensures.whole), c.with_bit-more.ensures.rest)
