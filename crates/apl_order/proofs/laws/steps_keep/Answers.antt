use Rattle.apl_order.proofs.Keeping.{step-keeps}
use Rattle.apl_order.proofs.laws.steps_keep.Goals as goal

pub returns : goal.returns
returns c = step-keeps
