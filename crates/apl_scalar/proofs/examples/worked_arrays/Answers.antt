use Rattle.std.proofs.Common.{refl}
use Rattle.apl_scalar.proofs.examples.worked_arrays.Goals as goal

pub returns-clause-residues : goal.returns-clause-residues
returns-clause-residues c = refl

pub returns-clause-characters : goal.returns-clause-characters
returns-clause-characters c = refl

pub returns-clause-no_number : goal.returns-clause-no_number
returns-clause-no_number c = refl

pub returns-clause-no_characters : goal.returns-clause-no_characters
returns-clause-no_characters c = refl

pub returns-clause-lengths : goal.returns-clause-lengths
returns-clause-lengths c = refl

pub returns-clause-first_fault : goal.returns-clause-first_fault
returns-clause-first_fault c = refl
