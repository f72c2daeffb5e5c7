use Rattle.apl_savable.proofs.Keeping.{statement-savable}
use Rattle.apl_savable.proofs.laws.statements_keep_savable.Goals as goal

pub returns : goal.returns
returns c = statement-savable
