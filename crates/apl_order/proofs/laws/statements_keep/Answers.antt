use Rattle.apl_order.proofs.Keeping.{statement-keeps}
use Rattle.apl_order.proofs.laws.statements_keep.Goals as goal

pub returns : goal.returns
returns c = statement-keeps
