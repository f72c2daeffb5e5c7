use Rattle.apl_savable.proofs.Keeping.{definition-savable}
use Rattle.apl_savable.proofs.laws.definitions_keep_savable.Goals as goal

pub returns : goal.returns
returns c = definition-savable
