use Rattle.std.proofs.Common.{arith}
use Rattle.apl_arrays.proofs.Steps.{step_low}
use Rattle.apl_arrays.proofs.axis.along.Goals as goal

pub overflow_mul-result : goal.overflow_mul-result
overflow_mul-result c = omega (arith, step_low c.args.axis.now.up c.args.axis.now.down c.args.axis.now.length c.args.index c.requires.within)

pub overflow_mul-result-2 : goal.overflow_mul-result-2
overflow_mul-result-2 c = omega (arith, step_low c.args.axis.now.up c.args.axis.now.down c.args.axis.now.length c.args.index c.requires.within)

pub overflow_add-result : goal.overflow_add-result
overflow_add-result c = omega (arith, step_low c.args.axis.now.up c.args.axis.now.down c.args.axis.now.length c.args.index c.requires.within)

pub overflow_add-result-2 : goal.overflow_add-result-2
overflow_add-result-2 c = omega (arith, step_low c.args.axis.now.up c.args.axis.now.down c.args.axis.now.length c.args.index c.requires.within)
