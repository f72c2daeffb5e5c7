use Rattle.apl_kept_sessions.proofs.Sessions.{sessions-savable}
use Rattle.apl_kept_sessions.proofs.laws.sessions_keep_savable.Goals as goal

pub returns : goal.returns
returns c = sessions-savable
