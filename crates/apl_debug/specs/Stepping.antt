-- Runs of steps that end by what a step answers.
use Rattle.std.specs.Prelude.{◌≡◌, ◌<◌, ◌-◌, ℕ, zero, suc, Bool, true, false, if◌then◌else◌}
use Rattle.apl_machine_state.specs.declared.output.Progress.{Progress}
use Rattle.apl_machine_state.specs.declared.output.Progress.TheVariants.{Idle, Stopped, LineEnd, Running}
use Rattle.apl_machine_state.specs.State.{State, is_idle, progress, progress_at, step, steps, turn}

-- where a machine stands after steps, and what the last one answered
pub record Run : Type 0 where
  pub state : State
  pub answer : Progress

-- a line has ended, was left by a branch or abandoned, or nothing runs
abbrev pub leaves_line : Progress → Bool
leaves_line Running = false
leaves_line progress = true

-- nothing runs
abbrev pub is_over : Progress → Bool
is_over Idle = true
is_over Stopped = true
is_over progress = false

-- at most n steps, through the first whose answer ends the run; an idle machine stays
abbrev pub run_from : (Progress → Bool) → Progress → ℕ → State → Run
run_from ends before zero s = record { state = s; answer = before }
run_from ends before (suc n) s =
    if is_idle s then record { state = s; answer = before }
    else if ends (progress (turn s)) then record { state = step s; answer = progress (turn s) }
    else run_from ends (progress (turn s)) n (step s)

abbrev pub run : (Progress → Bool) → ℕ → State → Run
run ends n s = run_from ends (progress_at s) n s

-- done of at most n steps from s are made, fewer than n, and the others lead on from t to where the run leads
abbrev pub StandsAfter : ℕ → (Progress → Bool) → ℕ → State → State → Type 0
StandsAfter done ends n s t = (done < n) × (t ≡ steps done s) × (run ends (n - done) t ≡ run ends n s)

-- some of at most n steps from s are made
abbrev pub StandsWithin : (Progress → Bool) → ℕ → State → State → Type 0
StandsWithin ends n s t = (done : ℕ) × StandsAfter done ends n s t

-- a run ends where a line is left, or else where nothing runs
abbrev pub ends_at : Bool → Progress → Bool
ends_at true = leaves_line
ends_at false = is_over
