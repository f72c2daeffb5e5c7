use Rattle.std.proofs.Common.{arith}
use Rattle.apl_arrays.proofs.Steps.{skip_low}
use Rattle.apl_arrays.proofs.axis.skip.Goals as goal

pub overflow_mul-result : goal.overflow_mul-result
overflow_mul-result c = omega (arith, skip_low c.args.axis.now.up c.args.axis.now.down c.args.axis.now.length c.args.from c.args.len c.requires.within)

pub overflow_mul-result-2 : goal.overflow_mul-result-2
overflow_mul-result-2 c = omega (arith, skip_low c.args.axis.now.up c.args.axis.now.down c.args.axis.now.length c.args.from c.args.len c.requires.within)

pub overflow_add-result : goal.overflow_add-result
overflow_add-result c = omega (arith, skip_low c.args.axis.now.up c.args.axis.now.down c.args.axis.now.length c.args.from c.args.len c.requires.within)
