use Rattle.apl_savable.proofs.Same.{saved-same}
use Rattle.apl_savable.proofs.laws.saved_is_the_same.Goals as goal

pub returns : goal.returns
returns c = saved-same
