-- What runs leave can be kept. At any stop a run may be saved, loaded again and gone on with: what follows is the same.
use Rattle.std.specs.Prelude.{◌≡◌, ℕ, Bool, true, List, [], None}
use Rattle.apl_machine_state.specs.State.{State, is_idle, turn}
use Rattle.apl_parts.specs.Taken.{parts_of}
use Rattle.apl_parts.specs.Restored.{state_of}
use Rattle.apl_saved.specs.Rules.{AreRuled}
use Rattle.apl_savable.specs.Savable.{IsSavable}
use Rattle.apl_savable.specs.Reached.{IsReached}
use Rattle.apl_session.specs.Defining.{closed}
use Rattle.apl_session.specs.Events.{typed}
use Rattle.apl_resume.specs.Cut.{cut, cut_steps, stops_in}
use Rattle.apl_runs.specs.Output.{silent}
use Rattle.apl_runs.specs.Sessions.{answered, plain}
use Rattle.apl_runs.specs.Transcript.{after_lines}
use Rattle.apl_runs.specs.Ways.{Way}
use Rattle.apl_kept_runs.specs.Kept.{kept_cut, kept_run, whole}

-- A state that is saved without loss but for its output: nothing runs, no definition is open, a file can hold it, its parts keep to the rules of a file,
-- and what is loaded of them is that state.
pub record CanBeKept (s : State) : Type 0 where
  pub idle : is_idle s ≡ true
  pub closed : s.definition ≡ None
  pub savable : IsSavable s
  pub ruled : AreRuled (parts_of s)
  pub same : state_of (parts_of s) ≡ record s { output = [] }

-- What is promised of a line that is given n steps, and saved and loaded again at the stops that are asked for, whichever these are.
pub record IsSameRun (asked : ℕ → Bool) (x : State) (line : List ℕ) (n : ℕ) : Type 0 where
  -- at each stop it can be saved
  pub kept : (k : ℕ) → (turn (kept_run asked x line k).state).stopped ≡ true → CanBeKept (turn (kept_run asked x line k).state).state
  -- for each k after k steps both have the same state, and have written the same
  pub on_the_way : (k : ℕ) → whole (kept_run asked x line k) ≡ cut_steps k (typed x line)
  -- and have answered as many stops
  pub stops : (k : ℕ) → (kept_run asked x line k).stops ≡ stops_in k (typed x line)
  -- at the end both have the same state, and have written the same
  pub at_the_end : whole (kept_cut asked x line n) ≡ cut x line n

-- the law
abbrev pub KeptRunsAreTheSame : Type 0
KeptRunsAreTheSame = (asked : ℕ → Bool) (x : State) (line : List ℕ) (n : ℕ) → IsSavable x → is_idle x ≡ true → IsSameRun asked x line n

-- and of a state to which a machine came
abbrev pub ReachedRunsAreTheSame : Type 0
ReachedRunsAreTheSame = (asked : ℕ → Bool) (x : State) (line : List ℕ) (n : ℕ) → IsReached x → is_idle x ≡ true → IsSameRun asked x line n

-- ---- what is left

-- a machine comes to this state, and nothing of it is lost where it is saved
pub record IsLeftWhole (s : State) : Type 0 where
  pub reached : IsReached s
  pub kept : CanBeKept s

-- What the cut run of a line leaves, but for a definition that is open.
abbrev pub CutRunsCanBeKept : Type 0
CutRunsCanBeKept = (x : State) (line : List ℕ) (n : ℕ) → IsReached x → IsLeftWhole (closed (cut x line n))

-- what lines leave that are done in a way, as a run gives it: without an open definition, all their output written
abbrev pub left_by : Way State → State → List (List ℕ) → State
left_by way x lines = closed (silent (after_lines way (closed x) lines))

abbrev pub LeavesWhole : Way State → Type 0
LeavesWhole way = (x : State) (lines : List (List ℕ)) → IsReached x → is_idle x ≡ true → IsLeftWhole (left_by way x lines)

-- What runs leave, whether they answer the stops or not.
abbrev pub RunsCanBeKept : Type 0
RunsCanBeKept = ((n : ℕ) → LeavesWhole (plain n)) × ((n : ℕ) → LeavesWhole (answered n))
