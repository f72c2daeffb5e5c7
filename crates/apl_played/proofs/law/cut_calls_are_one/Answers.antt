use Rattle.apl_played.proofs.Cuts.{calls-join}
use Rattle.apl_played.proofs.law.cut_calls_are_one.Goals as goal

pub returns : goal.returns
returns c = calls-join
