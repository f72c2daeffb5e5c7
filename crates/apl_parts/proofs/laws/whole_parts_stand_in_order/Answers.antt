use Rattle.apl_parts.proofs.InOrder.{whole-order}
use Rattle.apl_parts.proofs.laws.whole_parts_stand_in_order.Goals as goal

pub returns : goal.returns
returns c = whole-order
