-- The states that a machine comes to, and that none of them is lost where it is saved.
use Rattle.std.specs.Prelude.{◌≡◌, List, [], true, Option, None}
use Rattle.apl_defn.specs.Definitions.{Text, Definition}
use Rattle.apl_defn.specs.Defining.{IsDefined}
use Rattle.apl_machine_state.specs.declared.output.OutLine.{OutLine}
use Rattle.apl_machine_state.specs.State.{State, clear, interrupt, is_idle, step, with_function, with_lines}
use Rattle.apl_machine_state.specs.Beginning.{begun}
use Rattle.apl_machine_state.specs.Objects.{cleared, erased}
use Rattle.apl_parts.specs.Workspaces.{Pieces}
use Rattle.apl_parts.specs.Taken.{parts_of}
use Rattle.apl_parts.specs.Restored.{state_of}
use Rattle.apl_saved.specs.Rules.{AreRuled}
use Rattle.apl_savable.specs.Savable.{IsSavable}

-- A machine is new or loaded; it steps, is interrupted, begins statements where nothing runs, gets and loses objects and lines of output. A session
-- opens and closes a definition on it.
pub data IsReached : State → Type 0 where
  new : IsReached clear
  loaded : (parts : Pieces) → AreRuled parts → IsReached (state_of parts)
  stepped : (s : State) → IsReached s → IsReached (step s)
  interrupted : (s : State) → IsReached s → IsReached (interrupt s)
  typed : (s : State) (text : Text) → is_idle s ≡ true → IsReached s → IsReached (begun s text)
  with_definition : (s : State) (d : Definition) → IsDefined d → IsReached s → IsReached (with_function d s)
  without_objects : (s : State) (names : List Text) → IsReached s → IsReached (erased names s)
  emptied : (s : State) → IsReached s → IsReached (cleared s)
  told : (s : State) (lines : List OutLine) → IsReached s → IsReached (with_lines lines s)
  output_taken : (s : State) → IsReached s → IsReached (record s { output = [] })
  defining : (s : State) (lines : Option (List Text)) → IsReached s → IsReached (record s { definition = lines })

-- each can be saved
abbrev pub ReachedIsSavable : Type 0
ReachedIsSavable = (s : State) → IsReached s → IsSavable s

-- Where nothing runs, its parts keep to the rules of a file, and what is loaded of them is that state, all its output taken.
abbrev pub ReachedIsTheSame : Type 0
ReachedIsTheSame = (s : State) → IsReached s → is_idle s ≡ true → AreRuled (parts_of s) × (state_of (parts_of s) ≡ record s { definition = None; output = [] })
