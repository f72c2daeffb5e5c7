use Rattle.std.proofs.Common.{arith}
use Rattle.apl_reshape.proofs.Limits.{length_low}
use Rattle.apl_reshape.proofs.shapes.length_numbers.Goals as goal

pub length_number-requires : goal.length_number-requires
length_number-requires c = omega (arith, length_low c.args.lengths.now c.loop-length.length-index c.loop-length-test.true, c.requires)
