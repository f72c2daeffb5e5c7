use Rattle.apl_order.proofs.Keeping.{definition-keeps}
use Rattle.apl_order.proofs.laws.definitions_keep.Goals as goal

pub returns : goal.returns
returns c = definition-keeps
