use Rattle.apl_structure_laws.proofs.Masks.{compresses_back}
use Rattle.apl_structure_laws.proofs.laws.compression_undoes_expansion.Goals as goal

pub returns : goal.returns
returns c = compresses_back
