use Rattle.std.proofs.Common.{◌∙◌}
use Rattle.apl_scalar.proofs.Turns.{turned_value}
use Rattle.apl_scalar.proofs.small_residues.turned_up.Goals as goal

pub returns : goal.returns
returns c = c.cast_unsigned.ensures ∙ turned_value c.args.y c.ranges.y
