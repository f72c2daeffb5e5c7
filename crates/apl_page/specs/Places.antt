-- The place where a session stands or none, and what calls make of it.
use Rattle.std.specs.Prelude.{◌≡◌, ◌≢◌, ◌⊎◌, ℕ, nat_le, ◌<◌, Bool, true, List, [], ◌++◌, drop, length, map, Option, Some, None, option_map, Result, Ok, Err, IfErr, IfOk, MatchResult, if◌then◌else◌}
use Rattle.apl_machine_state.specs.State.{State, is_idle}
use Rattle.apl_session.specs.Defining.{next_line}
use Rattle.apl_workspace.specs.Numbers.{load_number}
use Rattle.apl_workspace.specs.Refusals.{IsUnloaded}
use Rattle.apl_workspace.specs.declared.error.LoadError.{LoadError}
use Rattle.apl_workspace.specs.declared.error.LoadError.TheVariants as load
use Rattle.apl_faults.specs.Report.{number_of}
use Rattle.apl_kept.specs.Keeping.{BeginsWith, has_line_feed}
use Rattle.apl_kept.specs.Standing.{told_of}
use Rattle.apl_kept.specs.declared.standing.Told.{Told}
use Rattle.apl_kept.specs.declared.standing.Told.TheVariants.{Fault}
use Rattle.apl_page.specs.Spelling.{spelled, texts_of}

-- a session's state, and what was spelled of what it wrote and nobody has taken
pub record Keeping : Type 0 where
  pub state : State
  pub unsaid : List ℕ

-- a session begins in a state
abbrev pub begun : State → Keeping
begun s = record { state = s; unsaid = [] }

-- what the state becomes where a session stands
abbrev pub at : Option Keeping → (State → State) → Option Keeping
at place f = option_map (λ (k : Keeping). record k { state = f k.state }) place

abbrev pub is_idle_at : Option Keeping → Bool
is_idle_at None = true
is_idle_at (Some k) = is_idle k.state

abbrev pub next_line_at : Option Keeping → ℕ
next_line_at None = 0
next_line_at (Some k) = next_line k.state.definition

-- the number of the fault that a session tells, 0 where it tells none
abbrev pub told_fault : Told → ℕ
told_fault (Fault fault) = number_of fault
told_fault told = 0

abbrev pub fault_at : Option Keeping → ℕ
fault_at None = 0
fault_at (Some k) = told_fault (told_of k.state)

abbrev pub unsaid_at : Option Keeping → List ℕ
unsaid_at None = []
unsaid_at (Some k) = k.unsaid

-- what was written stands behind the bytes that wait
abbrev pub gathered_of : Keeping → Keeping
gathered_of k = record { state = record k.state { output = [] }; unsaid = k.unsaid ++ spelled (texts_of k.state.output) }

abbrev pub gathered : Option Keeping → Option Keeping
gathered place = option_map gathered_of place

-- so many of the bytes that wait are taken
abbrev pub without_leading : ℕ → Keeping → Keeping
without_leading count k = record k { unsaid = drop count k.unsaid }

abbrev pub taken : ℕ → Option Keeping → Option Keeping
taken count place = option_map (without_leading count) place

-- the number of a call that any session does, and none refuses but for memory
abbrev pub session_number : Option Keeping → ℕ
session_number None = 17
session_number (Some k) = 0

-- the number of a line that is typed
abbrev pub line_number : Option Keeping → List ℕ → ℕ
line_number None line = 17
line_number (Some k) line =
    if nat_le (length line) 2000 then (if has_line_feed line then 19 else (if is_idle k.state then 0 else 16)) else 14

-- A call's number is the one that is due. Memory may run out where that is 0.
abbrev pub IsNumber : ℕ → ℕ → Type 0
IsNumber due number = (number ≡ due) ⊎ ((due ≡ 0) × (number ≡ 8))

-- what opening the bytes of a workspace comes to
pub record IsOpened (workspace : List ℕ) (outcome : Result State LoadError) : Type 0 where
  pub opened : IfOk outcome (λ s. BeginsWith workspace s)
  pub refused : IfErr outcome (λ e. IsUnloaded workspace e)
  pub complete : (s : State) → BeginsWith workspace s → MatchResult outcome (λ t. t ≡ s) (λ e. e ≡ load.Memory)

-- a session begins instead of what stood there, or that stays
abbrev pub Stands : Result State LoadError → ℕ → Option Keeping → Option Keeping → Type 0
Stands (Ok s) number old new = (number ≡ 0) × (new ≡ Some (begun s))
Stands (Err e) number old new = (number ≡ load_number e) × (new ≡ old)

abbrev pub Opens : List ℕ → ℕ → Option Keeping → Option Keeping → Type 0
Opens workspace number old new = (outcome : Result State LoadError) × IsOpened workspace outcome × Stands outcome number old new
