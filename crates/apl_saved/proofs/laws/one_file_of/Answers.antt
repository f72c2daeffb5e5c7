use Rattle.apl_saved.proofs.OneFile.{one_file}
use Rattle.apl_saved.proofs.laws.one_file_of.Goals as goal

pub returns : goal.returns
returns c = one_file
