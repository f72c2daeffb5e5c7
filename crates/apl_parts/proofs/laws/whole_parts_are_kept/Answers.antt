use Rattle.apl_parts.proofs.Kept.{whole-kept}
use Rattle.apl_parts.proofs.laws.whole_parts_are_kept.Goals as goal

pub returns : goal.returns
returns c = whole-kept
