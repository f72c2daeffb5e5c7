use Rattle.apl_structure_laws.proofs.Digits.{decodes_back}
use Rattle.apl_structure_laws.proofs.Residues.{is_their_residue}
use Rattle.apl_structure_laws.proofs.laws.decoding_undoes_encoding.Goals as goal

pub returns-clause-value : goal.returns-clause-value
returns-clause-value c = decodes_back

pub returns-clause-residue : goal.returns-clause-residue
returns-clause-residue c = is_their_residue
