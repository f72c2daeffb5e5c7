use Rattle.apl_savable.proofs.Reached.{reached-same}
use Rattle.apl_savable.proofs.laws.reached_is_the_same.Goals as goal

pub returns : goal.returns
returns c = reached-same
