use Rattle.apl_runs.proofs.Idle.{lines-leave_idle}
use Rattle.apl_runs.proofs.law.lines_leave_idle.Goals as goal

pub returns : goal.returns
returns c = lines-leave_idle c.always_in_order.ensures
