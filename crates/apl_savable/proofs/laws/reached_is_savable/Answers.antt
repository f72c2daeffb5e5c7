use Rattle.apl_savable.proofs.Reached.{reached-savable}
use Rattle.apl_savable.proofs.laws.reached_is_savable.Goals as goal

pub returns : goal.returns
returns c = reached-savable
