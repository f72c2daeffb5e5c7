use Rattle.apl_kept_sessions.proofs.Sessions.{sessions-same}
use Rattle.apl_kept_sessions.proofs.laws.sessions_are_the_same.Goals as goal

pub returns : goal.returns
returns c = sessions-same
