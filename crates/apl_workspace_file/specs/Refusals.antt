-- The refusals.
use Rattle.std.specs.Prelude.{ℕ}
use Rattle.apl_workspace_file.specs.declared.error.ReadError.{ReadError}
use Rattle.apl_workspace_file.specs.declared.error.ReadError.TheVariants.{NotJson, Form, Memory}
use Rattle.apl_workspace_file.specs.declared.error.TreeError.{TreeError}
use Rattle.apl_workspace_file.specs.declared.error.TreeError.TheVariants as tree

-- their numbers
abbrev pub refusal_number : ReadError → ℕ
refusal_number NotJson = 1
refusal_number Form = 2
refusal_number Memory = 8

-- For private clauses: what the refusal of a tree is for its bytes.
abbrev pub refusal_of : TreeError → ReadError
refusal_of tree.Form = Form
refusal_of tree.Memory = Memory
