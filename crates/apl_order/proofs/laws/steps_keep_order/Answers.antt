use Rattle.apl_order.proofs.Steps.{step-order}
use Rattle.apl_order.proofs.laws.steps_keep_order.Goals as goal

pub returns : goal.returns
returns c = step-order
