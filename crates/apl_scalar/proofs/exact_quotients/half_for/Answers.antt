use Rattle.apl_scalar.proofs.Exact.{has_zeros, half_fits}
use Rattle.apl_scalar.proofs.exact_quotients.half_for.Goals as goal

pub overflow_sub-result : goal.overflow_sub-result
overflow_sub-result c = has_zeros c.args.divisor c.requires.0 c.requires.1

pub returns : goal.returns
returns c = half_fits c.args.divisor c.requires.0 c.requires.1
