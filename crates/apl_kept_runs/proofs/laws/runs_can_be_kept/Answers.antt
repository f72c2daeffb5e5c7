use Rattle.apl_kept_runs.proofs.Left.{runs-left}
use Rattle.apl_kept_runs.proofs.laws.runs_can_be_kept.Goals as goal

pub returns : goal.returns
returns c = runs-left c.lines_leave_idle.ensures
