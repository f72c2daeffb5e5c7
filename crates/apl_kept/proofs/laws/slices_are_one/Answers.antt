use Rattle.apl_kept.proofs.Slices.{slices-one}
use Rattle.apl_kept.proofs.laws.slices_are_one.Goals as goal

pub returns : goal.returns
returns c = slices-one
