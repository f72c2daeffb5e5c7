use Rattle.apl_kept_runs.proofs.Left.{cut-left}
use Rattle.apl_kept_runs.proofs.laws.cut_runs_can_be_kept.Goals as goal

pub returns : goal.returns
returns c = cut-left c.lines_leave_idle.ensures
