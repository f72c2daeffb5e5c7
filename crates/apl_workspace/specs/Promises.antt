-- What is promised of files that are loaded and saved again.
use Rattle.std.specs.Prelude.{◌≡◌, ℕ, List}
use Rattle.serde_json.specs.Written.{compact_text}
use Rattle.apl_machine_state.specs.State.{State}
use Rattle.apl_parts.specs.Restored.{state_of}
use Rattle.apl_parts.specs.Workspaces.{Pieces}
use Rattle.apl_saved.specs.Rules.{AreRuled}
use Rattle.apl_saved.specs.Spelled.{IsFileOf}
use Rattle.apl_workspace_file.specs.Trees.{tree_of}
use Rattle.apl_workspace_file.specs.declared.fields.File.{File}
use Rattle.apl_workspace_file.specs.declared.fields.Version.TheVariants.{Two}
use Rattle.apl_workspace.specs.Saved.{IsSavedAs, settled}

-- A file that is loaded is saved as version 2, and nothing else of it changes.
abbrev pub LoadedIsSavedAsItWas : Type 0
LoadedIsSavedAsItWas = (f : File) (p : Pieces) (bytes : List ℕ) → IsFileOf f p → AreRuled p → IsSavedAs bytes (state_of p) → bytes ≡ compact_text (tree_of (record f { version = Two }))

-- What was saved of a state is saved again byte for byte, once it is loaded: without its output and its open definition.
abbrev pub SavedIsSavedAgain : Type 0
SavedIsSavedAgain = (s : State) (bytes again : List ℕ) → IsSavedAs bytes s → IsSavedAs again (settled s) → again ≡ bytes
