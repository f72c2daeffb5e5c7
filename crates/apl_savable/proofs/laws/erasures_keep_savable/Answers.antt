use Rattle.apl_savable.proofs.Keeping.{erasure-savable}
use Rattle.apl_savable.proofs.laws.erasures_keep_savable.Goals as goal

pub returns : goal.returns
returns c = erasure-savable
