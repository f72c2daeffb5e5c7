-- What it is to play lines on the bytes of a workspace, and why they aren't played.
use Rattle.std.specs.Prelude.{◌≡◌, ◌≢◌, ℕ, List, [], ◌∷◌, Result, true, IfOk, IfErr, MatchResult}
use Rattle.apl_machine_state.specs.State.{State, clear}
use Rattle.apl_session.specs.Defining.{closed}
use Rattle.apl_runs.specs.declared.runs.RunError.{RunError}
use Rattle.apl_runs.specs.declared.runs.RunError.TheVariants as run
use Rattle.apl_runs.specs.Runs.{IsWithinLimits, StoppedAt}
use Rattle.apl_runs.specs.Sessions.{plain}
use Rattle.apl_runs.specs.Transcript.{after_lines, lines_of, transcript}
use Rattle.apl_workspace.specs.Refusals.{IsUnloaded}
use Rattle.apl_workspace.specs.Saved.{IsLoaded, IsSavedAs, settled}
use Rattle.apl_workspace.specs.declared.error.LoadError.{LoadError}
use Rattle.apl_workspace.specs.declared.error.LoadError.TheVariants as load
use Rattle.apl_played.specs.declared.error.PlayError.{PlayError}
use Rattle.apl_played.specs.declared.error.PlayError.TheVariants.{Workspace, LineTooLong, TooManyLines, Memory}
use Rattle.apl_played.specs.declared.playing.Played.{Played}

-- the state that a workspace's bytes stand for; no bytes stand for a clear one
abbrev pub BeginsWith : List ℕ → State → Type 0
BeginsWith [] s = s ≡ clear
BeginsWith (b ∷ bytes) s = IsLoaded (b ∷ bytes) s

-- The state after lines, each of which gets at most so many steps. An open definition is left out, and all output is taken.
abbrev pub state_after : ℕ → State → List ℕ → State
state_after steps s lines = settled (after_lines (plain steps) s (lines_of lines))

-- Lines were played on a state: they are within the limits of a run, and this is their transcript and the file of the state after them, of which
-- that state is loaded.
pub record Plays (steps : ℕ) (s : State) (lines : List ℕ) (played : Played) : Type 0 where
  pub within : IsWithinLimits lines
  pub transcript : played.transcript.items ≡ transcript (plain steps) s lines
  pub saved : IsSavedAs played.workspace.items (state_after steps s lines)
  pub again : IsLoaded played.workspace.items (state_after steps s lines)

-- A run over lines on a state reads one byte too many, and this is the transcript of the complete lines before.
abbrev pub StopsAt : RunError → ℕ → State → List ℕ → List ℕ → Type 0
StopsAt error steps s lines written = (left : List ℕ) × StoppedAt error (plain steps) s lines left true [] written

-- Why lines aren't played on a state: by the lines alone. Memory may always run out.
abbrev pub StopsFrom : ℕ → State → List ℕ → PlayError → Type 0
StopsFrom steps s lines (Workspace e) = ⊥
StopsFrom steps s lines (LineTooLong written) = StopsAt run.LineTooLong steps s lines written.items
StopsFrom steps s lines (TooManyLines written) = StopsAt run.TooManyLines steps s lines written.items
StopsFrom steps s lines Memory = Unit {0}

-- Why lines aren't played on bytes: the bytes are those of no workspace, for the reason that loading gives; or by the lines.
abbrev pub IsUnplayed : ℕ → List ℕ → List ℕ → PlayError → Type 0
IsUnplayed steps workspace lines (Workspace e) = (workspace ≢ []) × (e ≢ load.Memory) × IsUnloaded workspace e
IsUnplayed steps workspace lines (LineTooLong written) = (s : State) × BeginsWith workspace s × StopsAt run.LineTooLong steps s lines written.items
IsUnplayed steps workspace lines (TooManyLines written) = (s : State) × BeginsWith workspace s × StopsAt run.TooManyLines steps s lines written.items
IsUnplayed steps workspace lines Memory = Unit {0}

-- All that a call promises of what it comes to: a state that the bytes stand for, on which the lines are played, or the reason why not; and where the
-- bytes stand for a state, that is the one.
pub record ComesTo (steps : ℕ) (workspace lines : List ℕ) (outcome : Result Played PlayError) : Type 0 where
  pub played : IfOk outcome (λ p. (s : State) × BeginsWith workspace s × Plays steps s lines p)
  pub refused : IfErr outcome (λ e. IsUnplayed steps workspace lines e)
  pub complete : (s : State) → BeginsWith workspace s → MatchResult outcome (λ p. Plays steps s lines p) (λ e. StopsFrom steps s lines e)

-- ---- between the parts of a call, for private clauses

-- why no machine is made of bytes
abbrev pub IsUnbegun : List ℕ → PlayError → Type 0
IsUnbegun workspace (Workspace e) = (workspace ≢ []) × (e ≢ load.Memory) × IsUnloaded workspace e
IsUnbegun workspace (LineTooLong written) = ⊥
IsUnbegun workspace (TooManyLines written) = ⊥
IsUnbegun workspace Memory = Unit {0}

-- a machine ran lines: the state after them, and their transcript
pub record Runs (steps : ℕ) (s : State) (lines : List ℕ) (after : State) (written : List ℕ) : Type 0 where
  pub within : IsWithinLimits lines
  pub state : after ≡ state_after steps s lines
  pub transcript : written ≡ transcript (plain steps) (closed s) lines

-- the refusal for what loading answers
abbrev pub error_of_load : LoadError → PlayError
error_of_load load.NotJson = Workspace load.NotJson
error_of_load load.Form = Workspace load.Form
error_of_load load.Array = Workspace load.Array
error_of_load load.Definition = Workspace load.Definition
error_of_load load.Context = Workspace load.Context
error_of_load load.Code = Workspace load.Code
error_of_load load.Limit = Workspace load.Limit
error_of_load load.Memory = Memory
