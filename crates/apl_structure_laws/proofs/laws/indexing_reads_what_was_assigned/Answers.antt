use Rattle.apl_structure_laws.proofs.Assignments.{last_stands, reads_back}
use Rattle.apl_structure_laws.proofs.laws.indexing_reads_what_was_assigned.Goals as goal

pub returns-clause-last : goal.returns-clause-last
returns-clause-last c = last_stands

pub returns-clause-once : goal.returns-clause-once
returns-clause-once c = reads_back
