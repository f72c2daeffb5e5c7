-- Where a cut run stands in which memory ran out.
use Rattle.std.specs.Prelude.{◌≡◌, ℕ, ◌<◌, ◌⊎◌, List, true}
use Rattle.apl_machine_state.specs.State.{State, turn, step}
use Rattle.apl_session.specs.Events.{typed}
use Rattle.apl_resume.specs.Cut.{cut_steps, resume_line}

-- in the answer to a stop: before its line, or before one of its steps
abbrev pub IsAnswering : State → State → Type 0
IsAnswering s t = (t ≡ s) ⊎ ((t ≡ typed s resume_line) ⊎ (t ≡ step (typed s resume_line)))

-- between a state and the next: before its step, or where that stops, at the stop or in the answer to it
abbrev pub IsWithin : State → State → Type 0
IsWithin s t = (t ≡ s) ⊎ (((turn s).stopped ≡ true) × IsAnswering (turn s).state t)

-- within one of the steps of a cut run
abbrev pub IsPartOfRun : State → ℕ → State → Type 0
IsPartOfRun s n t = (k : ℕ) × (k < n) × IsWithin (cut_steps k s) t

-- before the line is typed, within one of the steps, or after them all, where the interrupt was refused
abbrev pub IsUnderWay : State → List ℕ → ℕ → State → Type 0
IsUnderWay x line n t = (t ≡ x) ⊎ (IsPartOfRun (typed x line) n t ⊎ (t ≡ cut_steps n (typed x line)))
