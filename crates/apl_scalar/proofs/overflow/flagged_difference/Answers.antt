use Rattle.std.proofs.Common.{arith}
use Rattle.std.proofs.lemmas.Int.{ints}
use Rattle.apl_scalar.proofs.Signs.{tried_rest, left_rest}
use Rattle.apl_scalar.proofs.overflow.flagged_difference.Goals as goal

pub returns-clause-fits : goal.returns-clause-fits
returns-clause-fits c h = tried_rest c.args.x c.args.y c.ranges.x c.ranges.y h

pub returns-clause-leaves : goal.returns-clause-leaves
returns-clause-leaves c h = left_rest c.args.x c.args.y c.ranges.x c.ranges.y (grind (arith, ints))
