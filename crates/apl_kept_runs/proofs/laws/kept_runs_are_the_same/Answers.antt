use Rattle.apl_kept_runs.proofs.Kept.{kept-runs, reached-runs}
use Rattle.apl_kept_runs.proofs.laws.kept_runs_are_the_same.Goals as goal

pub returns-clause-savable : goal.returns-clause-savable
returns-clause-savable c = kept-runs

pub returns-clause-reached : goal.returns-clause-reached
returns-clause-reached c = reached-runs
