use Rattle.apl_order.proofs.Steps.{statement-order}
use Rattle.apl_order.proofs.laws.statements_keep_order.Goals as goal

pub returns : goal.returns
returns c = statement-order
