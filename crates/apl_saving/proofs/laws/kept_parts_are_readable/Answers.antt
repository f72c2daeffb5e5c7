use Rattle.apl_saving.proofs.Read.{kept_read}
use Rattle.apl_saving.proofs.laws.kept_parts_are_readable.Goals as goal

pub returns : goal.returns
returns c = kept_read
