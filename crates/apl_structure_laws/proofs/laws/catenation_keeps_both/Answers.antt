use Rattle.apl_structure_laws.proofs.Catenations.{drops_first, takes_first}
use Rattle.apl_structure_laws.proofs.laws.catenation_keeps_both.Goals as goal

pub returns-clause-first : goal.returns-clause-first
returns-clause-first c = takes_first

pub returns-clause-second : goal.returns-clause-second
returns-clause-second c = drops_first
