use Rattle.apl_kept_sessions.proofs.Going.{reached-sessions-go-on, sessions-go-on}
use Rattle.apl_kept_sessions.proofs.laws.sessions_go_on.Goals as goal

pub returns-clause-savable : goal.returns-clause-savable
returns-clause-savable c = sessions-go-on

pub returns-clause-reached : goal.returns-clause-reached
returns-clause-reached c = reached-sessions-go-on
