use Rattle.apl_order.proofs.Keeping.{interrupt-keeps}
use Rattle.apl_order.proofs.laws.interrupts_keep.Goals as goal

pub returns : goal.returns
returns c = interrupt-keeps
