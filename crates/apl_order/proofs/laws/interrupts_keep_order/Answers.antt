use Rattle.apl_order.proofs.Steps.{interrupt-order}
use Rattle.apl_order.proofs.laws.interrupts_keep_order.Goals as goal

pub returns : goal.returns
returns c = interrupt-order
