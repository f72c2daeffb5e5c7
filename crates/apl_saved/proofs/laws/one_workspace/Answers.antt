use Rattle.apl_saved.proofs.OneWorkspace.{one_workspace}
use Rattle.apl_saved.proofs.laws.one_workspace.Goals as goal

pub returns : goal.returns
returns c = one_workspace c.definitions.ensures.again
