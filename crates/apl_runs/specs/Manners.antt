-- The way of each manner.
use Rattle.std.specs.Prelude.{ℕ, List}
use Rattle.apl_machine_state.specs.State.{State}
use Rattle.apl_runs.specs.Ways.{Way}
use Rattle.apl_runs.specs.Sessions.{on_session, plain_line, answered_line}
use Rattle.apl_runs.specs.declared.manner.Manner.{Manner}
use Rattle.apl_runs.specs.declared.manner.Manner.TheVariants.{Plain, Answered}

-- what a line makes of a state
abbrev pub does : Manner → State → List ℕ → State
does (Plain steps) = plain_line steps
does (Answered steps) = answered_line steps

abbrev pub way : Manner → Way State
way manner = on_session (does manner)
