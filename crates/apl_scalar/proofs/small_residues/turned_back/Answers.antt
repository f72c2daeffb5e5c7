use Rattle.apl_scalar.proofs.Turns.{left_value}
use Rattle.apl_scalar.proofs.small_residues.turned_back.Goals as goal

pub returns : goal.returns
returns c = left_value c.args.y c.args.divisor c.args.rest c.ranges.y c.requires.divisor.0 c.requires.divisor.1 c.requires.rest
