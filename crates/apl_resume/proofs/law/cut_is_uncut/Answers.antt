use Rattle.apl_resume.proofs.Uncut.{cut_is_uncut}
use Rattle.apl_resume.proofs.law.cut_is_uncut.Goals as goal

pub returns : goal.returns
returns c = cut_is_uncut
