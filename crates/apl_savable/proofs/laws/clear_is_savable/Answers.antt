use Rattle.apl_savable.proofs.Clear.{clear-savable}
use Rattle.apl_savable.proofs.laws.clear_is_savable.Goals as goal

pub returns : goal.returns
returns c = clear-savable
