use Rattle.apl_resume.proofs.Clean.{quiet_where_clean}
use Rattle.apl_resume.proofs.law.quiet_where_clean.Goals as goal

pub returns : goal.returns
returns c = quiet_where_clean
