-- What is promised of lines and steps in slices.
use Rattle.std.specs.Prelude.{◌≡◌, ℕ, ◌+◌, List, [], ◌∷◌, sum}
use Rattle.apl_machine_state.specs.State.{State, steps}
use Rattle.apl_session.specs.Events.{Event, Line, Steps, after, typed}
use Rattle.apl_kept_sessions.specs.Promises.{behind}

-- steps in two slices are all of them at once
abbrev pub SlicesAreOne : Type 0
SlicesAreOne = (s : State) (first second : ℕ) → steps second (steps first s) ≡ steps (first + second) s

-- the state after steps in slices
abbrev pub sliced : List ℕ → State → State
sliced [] s = s
sliced (count ∷ counts) s = sliced counts (steps count s)

-- A line that is typed, and steps in any slices, come to where the line and all steps lead as events of a session.
abbrev pub SlicedLinesAreOne : Type 0
SlicedLinesAreOne = (s : State) (line counts : List ℕ) → sliced counts (typed s line) ≡ after s (Line line ∷ Steps (sum counts) ∷ [])

-- Where the output is taken before events, the states after them are the same, and so is what is written.
abbrev pub OutputMayBeTaken : Type 0
OutputMayBeTaken = (s : State) (events : List Event) → after s events ≡ behind s.output (after (record s { output = [] }) events)
