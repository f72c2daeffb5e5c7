use Rattle.apl_structure_laws.proofs.Catenations.{rejoins}
use Rattle.apl_structure_laws.proofs.laws.take_and_drop_rejoin.Goals as goal

pub returns : goal.returns
returns c = rejoins
