use Rattle.apl_played.proofs.Kept.{lines-kept-reached, lines-kept-savable}
use Rattle.apl_played.proofs.law.lines_keep_savable.Goals as goal

pub returns-clause-savable : goal.returns-clause-savable
returns-clause-savable c = lines-kept-savable c.reached_is_savable.ensures c.sessions_keep_reached.ensures c.lines_leave_idle.ensures.0

pub returns-clause-reached : goal.returns-clause-reached
returns-clause-reached c = lines-kept-reached c.reached_is_savable.ensures c.sessions_keep_reached.ensures c.lines_leave_idle.ensures.0
