use Rattle.apl_structure_laws.proofs.Rotations.{rotates_back}
use Rattle.apl_structure_laws.proofs.laws.rotations_undo_each_other.Goals as goal

pub returns : goal.returns
returns c = rotates_back
