-- What is promised of saving and loading: the same state, for each that a machine comes to.
use Rattle.std.specs.Prelude.{◌≡◌, [], true, None}
use Rattle.apl_defn.specs.Definitions.{Text, Definition}
use Rattle.apl_defn.specs.Defining.{IsDefined}
use Rattle.apl_machine_state.specs.State.{State, clear, interrupt, is_idle, step, with_function}
use Rattle.apl_machine_state.specs.Beginning.{begun}
use Rattle.apl_machine_state.specs.Objects.{without_global}
use Rattle.apl_parts.specs.Workspaces.{Pieces}
use Rattle.apl_parts.specs.Taken.{parts_of}
use Rattle.apl_parts.specs.Restored.{state_of}
use Rattle.apl_saved.specs.Rules.{AreRuled}
use Rattle.apl_savable.specs.Savable.{IsSavable}

-- ---- saving and loading

-- the parts of an idle state keep to the rules of a file
abbrev pub PartsAreRuled : Type 0
PartsAreRuled = (s : State) → IsSavable s → is_idle s ≡ true → AreRuled (parts_of s)

-- and their state is that state, without an open definition, all output taken
abbrev pub SavedIsTheSame : Type 0
SavedIsTheSame = (s : State) → IsSavable s → is_idle s ≡ true → state_of (parts_of s) ≡ record s { definition = None; output = [] }

-- what is loaded can be saved
abbrev pub LoadedIsSavable : Type 0
LoadedIsSavable = (p : Pieces) → AreRuled p → IsSavable (state_of p)

-- and has the parts that it was made of, so that a file which is loaded and saved holds what it held
abbrev pub LoadedHasTheParts : Type 0
LoadedHasTheParts = (p : Pieces) → AreRuled p → parts_of (state_of p) ≡ p

-- ---- a machine comes to such states alone

abbrev pub ClearIsSavable : Type 0
ClearIsSavable = IsSavable clear

abbrev pub StepsKeepSavable : Type 0
StepsKeepSavable = (s : State) → IsSavable s → IsSavable (step s)

abbrev pub InterruptsKeepSavable : Type 0
InterruptsKeepSavable = (s : State) → IsSavable s → IsSavable (interrupt s)

abbrev pub StatementsKeepSavable : Type 0
StatementsKeepSavable = (s : State) (text : Text) → is_idle s ≡ true → IsSavable s → IsSavable (begun s text)

abbrev pub DefinitionsKeepSavable : Type 0
DefinitionsKeepSavable = (s : State) (d : Definition) → IsDefined d → IsSavable s → IsSavable (with_function d s)

abbrev pub ErasuresKeepSavable : Type 0
ErasuresKeepSavable = (s : State) (name : Text) → IsSavable s → IsSavable (without_global name s)
