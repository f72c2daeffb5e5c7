use Rattle.apl_workspace.proofs.Files.{loaded-saved, saved-again}
use Rattle.apl_workspace.proofs.laws.files_stay_as_they_were.Goals as goal

pub returns-clause-loaded : goal.returns-clause-loaded
returns-clause-loaded c = loaded-saved

pub returns-clause-again : goal.returns-clause-again
returns-clause-again c = saved-again
