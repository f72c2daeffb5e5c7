use Rattle.apl_scalar.proofs.Rests.{residue_left}
use Rattle.apl_scalar.proofs.examples.residues.Goals as goal

pub returns : goal.returns
returns c x y h = residue_left x y h
