-- The cut run, saved and loaded again at its stops.
use Rattle.std.specs.Prelude.{ℕ, zero, suc, Bool, List, [], ◌++◌, if◌then◌else◌}
use Rattle.apl_machine_state.specs.declared.output.OutLine.{OutLine}
use Rattle.apl_machine_state.specs.State.{State, Turn, turn, interrupt}
use Rattle.apl_parts.specs.Taken.{parts_of}
use Rattle.apl_parts.specs.Restored.{state_of}
use Rattle.apl_session.specs.Events.{typed}
use Rattle.apl_kept_sessions.specs.Promises.{behind}
use Rattle.apl_resume.specs.Cut.{resumed}

-- A run: the output that was taken of it, how many stops were answered, and the state where it stands.
pub record Run : Type 0 where
  pub taken : List OutLine
  pub stops : ℕ
  pub state : State

-- the state of a run, with all the output that it wrote
abbrev pub whole : Run → State
whole r = behind r.taken r.state

-- a run that begins
abbrev pub from : State → Run
from s = record { taken = []; stops = 0; state = s }

-- the output is taken, the state is saved, and the run goes on from what is loaded: the state of its parts
abbrev pub reloaded : Run → Run
reloaded r = record { taken = r.taken ++ r.state.output; stops = r.stops; state = state_of (parts_of r.state) }

-- it is done at a stop, where the stop's number, from 0, is one that is asked for
abbrev pub reloaded_at : (ℕ → Bool) → Run → Run
reloaded_at asked r = if asked r.stops then reloaded r else r

-- the stop is answered by the line →⎕LC and two steps
abbrev pub gone_on : Run → Run
gone_on r = record { taken = r.taken; stops = suc r.stops; state = resumed r.state }

-- a run in another state
abbrev pub with_state : State → Run → Run
with_state s r = record { taken = r.taken; stops = r.stops; state = s }

-- what a step makes of a run
abbrev pub after_turn : (ℕ → Bool) → Run → Turn → Run
after_turn asked r t = if t.stopped then gone_on (reloaded_at asked (with_state t.state r)) else with_state t.state r

-- n steps, and two more at each stop
abbrev pub kept_steps : (ℕ → Bool) → ℕ → Run → Run
kept_steps asked zero r = r
kept_steps asked (suc n) r = kept_steps asked n (after_turn asked r (turn r.state))

-- a line is typed and given n steps; at each stop the run is saved and loaded again where that is asked for, and the stop is answered
abbrev pub kept_run : (ℕ → Bool) → State → List ℕ → ℕ → Run
kept_run asked x line n = kept_steps asked n (from (typed x line))

abbrev pub interrupted : Run → Run
interrupted r = with_state (interrupt r.state) r

-- and what still runs then is interrupted
abbrev pub kept_cut : (ℕ → Bool) → State → List ℕ → ℕ → Run
kept_cut asked x line n = interrupted (kept_run asked x line n)
