use Rattle.apl_kept.proofs.Slices.{sliced-line}
use Rattle.apl_kept.proofs.laws.sliced_lines_are_one.Goals as goal

pub returns : goal.returns
returns c = sliced-line
