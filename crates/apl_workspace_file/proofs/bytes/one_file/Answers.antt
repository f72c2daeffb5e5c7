use Rattle.apl_workspace_file.proofs.OneTree.{file_one}
use Rattle.apl_workspace_file.proofs.bytes.one_file.Goals as goal

pub returns : goal.returns
returns c = file_one
