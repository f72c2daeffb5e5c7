-- What is promised of calls that follow one another.
use Rattle.std.specs.Prelude.{◌≡◌, ℕ, List, [], ◌++◌, true, None}
use Rattle.apl_machine_state.specs.State.{State, is_idle}
use Rattle.apl_savable.specs.Reached.{IsReached}
use Rattle.apl_savable.specs.Savable.{IsSavable}
use Rattle.apl_runs.specs.Sessions.{plain}
use Rattle.apl_runs.specs.Transcript.{after_lines, lines_of, transcript, unfinished}
use Rattle.apl_played.specs.Playing.{BeginsWith, state_after}

-- where lines begin with a workspace's bytes, nothing runs in the state after them, and a file can hold all of it
abbrev pub LinesKeepSavable : Type 0
LinesKeepSavable = (steps : ℕ) (workspace : List ℕ) (s : State) (lines : List ℕ) → BeginsWith workspace s → is_idle s ≡ true
    → (is_idle (state_after steps s lines) ≡ true) × IsSavable (state_after steps s lines)

-- and a machine comes to it
abbrev pub LinesKeepReached : Type 0
LinesKeepReached = (steps : ℕ) (workspace : List ℕ) (s : State) (lines : List ℕ) → BeginsWith workspace s → is_idle s ≡ true
    → (is_idle (state_after steps s lines) ≡ true) × IsReached (state_after steps s lines)

-- Where the first lines end with a line feed, or there are none, and they leave no definition open, what follows gives on the state after them just what
-- it gives behind them in one call: the transcripts are that of all lines, and the state is the one after all of them.
abbrev pub CutCallsAreOne : Type 0
CutCallsAreOne = (steps : ℕ) (s : State) (first second : List ℕ) → unfinished first ≡ [] → (after_lines (plain steps) s (lines_of first)).definition ≡ None
    → (transcript (plain steps) s first ++ transcript (plain steps) (state_after steps s first) second ≡ transcript (plain steps) s (first ++ second))
    × (state_after steps (state_after steps s first) second ≡ state_after steps s (first ++ second))
