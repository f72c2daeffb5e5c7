use Rattle.apl_savable.proofs.Keeping.{step-savable}
use Rattle.apl_savable.proofs.laws.steps_keep_savable.Goals as goal

pub returns : goal.returns
returns c = step-savable
