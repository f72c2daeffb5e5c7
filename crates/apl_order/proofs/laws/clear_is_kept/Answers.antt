use Rattle.apl_order.proofs.Keeping.{clear-kept}
use Rattle.apl_order.proofs.laws.clear_is_kept.Goals as goal

pub returns : goal.returns
returns c = clear-kept
