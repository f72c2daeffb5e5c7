use Rattle.apl_savable.proofs.Keeping.{interrupt-savable}
use Rattle.apl_savable.proofs.laws.interrupts_keep_savable.Goals as goal

pub returns : goal.returns
returns c = interrupt-savable
