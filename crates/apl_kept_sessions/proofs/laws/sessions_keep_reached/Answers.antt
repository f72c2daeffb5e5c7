use Rattle.apl_kept_sessions.proofs.Sessions.{sessions-reached}
use Rattle.apl_kept_sessions.proofs.laws.sessions_keep_reached.Goals as goal

pub returns : goal.returns
returns c = sessions-reached
