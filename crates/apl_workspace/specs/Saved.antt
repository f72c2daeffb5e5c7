-- Which bytes are the file of a workspace.
use Rattle.std.specs.Prelude.{◌≡◌, ℕ, List, [], None}
use Rattle.serde_json.specs.Data.{Data}
use Rattle.serde_json.specs.Written.{compact_text}
use Rattle.apl_workspace_file.specs.Fitting.{Fits}
use Rattle.apl_workspace_file.specs.Json.{IsJson}
use Rattle.apl_workspace_file.specs.Trees.{tree_of}
use Rattle.apl_workspace_file.specs.declared.fields.File.{File}
use Rattle.apl_workspace_file.specs.declared.fields.Version.TheVariants.{Two}
use Rattle.apl_machine_state.specs.State.{State}
use Rattle.apl_parts.specs.Workspaces.{Pieces}
use Rattle.apl_parts.specs.Taken.{parts_of}
use Rattle.apl_parts.specs.Restored.{state_of}
use Rattle.apl_saved.specs.Spelled.{IsFileOf}
use Rattle.apl_saved.specs.Rules.{AreRuled}

-- A tree stands for a state: it is that of a file whose fields hold parts that keep to the rules, and the state is that of these parts.
pub record IsSaved (tree : Data) (s : State) : Type 0 where
  pub file : File
  pub is_tree : tree_of file ≡ tree
  pub fits : Fits file
  pub parts : Pieces
  pub holds : IsFileOf file parts
  pub ruled : AreRuled parts
  pub state : s ≡ state_of parts

-- The bytes are the compact text of the tree that the parts of a state have in version 2.
pub record IsSavedAs (bytes : List ℕ) (s : State) : Type 0 where
  pub file : File
  pub text : bytes ≡ compact_text (tree_of file)
  pub version : file.version ≡ Two
  pub holds : IsFileOf file (parts_of s)

-- the bytes are JSON whose tree stands for a state
abbrev pub IsLoaded : List ℕ → State → Type 0
IsLoaded bytes s = (tree : Data) × IsJson bytes tree × IsSaved tree s

-- a state without its open definition, all its output taken
abbrev pub settled : State → State
settled s = record s { definition = None; output = [] }
