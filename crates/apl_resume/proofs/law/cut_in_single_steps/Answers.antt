use Rattle.apl_resume.proofs.Uncut.{cut_in_single_steps}
use Rattle.apl_resume.proofs.law.cut_in_single_steps.Goals as goal

pub returns : goal.returns
returns c = cut_in_single_steps
