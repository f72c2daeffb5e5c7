-- What is promised of whole sessions.
use Rattle.std.specs.Prelude.{◌≡◌, List, [], ◌++◌, true, None}
use Rattle.apl_machine_state.specs.declared.output.OutLine.{OutLine}
use Rattle.apl_machine_state.specs.State.{State, clear, is_idle}
use Rattle.apl_parts.specs.Taken.{parts_of}
use Rattle.apl_parts.specs.Restored.{state_of}
use Rattle.apl_saved.specs.Rules.{AreRuled}
use Rattle.apl_savable.specs.Savable.{IsSavable}
use Rattle.apl_savable.specs.Reached.{IsReached}
use Rattle.apl_session.specs.Events.{Event, after}

-- whatever happens to a state that can be saved, the state after it can be saved
abbrev pub SessionsKeepSavable : Type 0
SessionsKeepSavable = (s : State) (events : List Event) → IsSavable s → IsSavable (after s events)

-- and whatever happens to a state to which a machine comes, a machine comes to the state after it, but for a definition that is open then
abbrev pub SessionsKeepReached : Type 0
SessionsKeepReached = (s : State) (events : List Event) → IsReached s → IsReached (after s events)

-- Whatever happens to a clear workspace: where nothing runs then, its parts keep to the rules of a file, and what is loaded of them is that state,
-- without its open definition, all its output taken.
abbrev pub SessionsAreTheSame : Type 0
SessionsAreTheSame = (events : List Event) → is_idle (after clear events) ≡ true
    → AreRuled (parts_of (after clear events)) × (state_of (parts_of (after clear events)) ≡ record (after clear events) { definition = None; output = [] })

-- the state, where these lines were written before its output
abbrev pub behind : List OutLine → State → State
behind lines s = record s { output = lines ++ s.output }

-- What is loaded goes on as what it was saved of: whatever happens to an idle state without an open definition happens to the state of its parts too,
-- behind the output that was taken before it was saved.
abbrev pub SessionsGoOn : Type 0
SessionsGoOn = (s : State) (events : List Event) → IsSavable s → is_idle s ≡ true → s.definition ≡ None
    → after s events ≡ behind s.output (after (state_of (parts_of s)) events)

-- and so it does wherever a machine came to
abbrev pub ReachedSessionsGoOn : Type 0
ReachedSessionsGoOn = (s : State) (events : List Event) → IsReached s → is_idle s ≡ true → s.definition ≡ None
    → after s events ≡ behind s.output (after (state_of (parts_of s)) events)
