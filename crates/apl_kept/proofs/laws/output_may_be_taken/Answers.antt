use Rattle.apl_kept.proofs.Slices.{output-taken}
use Rattle.apl_kept.proofs.laws.output_may_be_taken.Goals as goal

pub returns : goal.returns
returns c = output-taken
