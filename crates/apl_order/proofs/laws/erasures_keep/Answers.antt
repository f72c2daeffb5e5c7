use Rattle.apl_order.proofs.Keeping.{erasure-keeps}
use Rattle.apl_order.proofs.laws.erasures_keep.Goals as goal

pub returns : goal.returns
returns c = erasure-keeps
