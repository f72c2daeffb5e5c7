-- The ways in which a run over one session does its lines.
use Rattle.std.specs.Prelude.{ℕ, List, [], ◌∷◌}
use Rattle.apl_machine_state.specs.State.{State}
use Rattle.apl_session.specs.Events.{Event, Line, Steps, Interrupt, after}
use Rattle.apl_resume.specs.Cut.{cut}
use Rattle.apl_runs.specs.Output.{written, silent}
use Rattle.apl_runs.specs.Ways.{Way}

-- A line makes this of a session's state, and the end of the input changes nothing. The session's output is what stands to be written.
abbrev pub on_session : (State → List ℕ → State) → Way State
on_session does = record { after_line = does; at_end = λ s. s; unwritten = λ s. written s.output; quiet = silent }

-- a line is typed, gets at most n steps, and is interrupted if it still runs
abbrev pub line_events : ℕ → List ℕ → List Event
line_events n line = Line line ∷ Steps n ∷ Interrupt ∷ []

-- what these events make of a state
abbrev pub plain_line : ℕ → State → List ℕ → State
plain_line n s line = after s (line_events n line)

-- the same where each stop is answered by the line →⎕LC, with two steps more
abbrev pub answered_line : ℕ → State → List ℕ → State
answered_line n s line = cut s line n

abbrev pub plain : ℕ → Way State
plain n = on_session (plain_line n)

abbrev pub answered : ℕ → Way State
answered n = on_session (answered_line n)
