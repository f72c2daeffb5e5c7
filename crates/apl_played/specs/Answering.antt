-- What a call answers in buffers.
use Rattle.std.specs.Prelude.{◌≡◌, ℕ, nat_le, ◌&&◌, Bool, List, [], ◌++◌, length, drop, Result, Ok, Err, if◌then◌else◌}
use Rattle.apl_played.specs.declared.error.PlayError.{PlayError}
use Rattle.apl_played.specs.declared.error.PlayError.TheVariants.{Workspace, LineTooLong, TooManyLines, Memory}
use Rattle.apl_played.specs.declared.playing.Played.{Played}
use Rattle.apl_played.specs.Numbers.{play_number}
use Rattle.apl_played.specs.Playing.{ComesTo}

-- the transcript, also of the lines before one that is refused
abbrev pub transcript_in : Result Played PlayError → List ℕ
transcript_in (Ok played) = played.transcript.items
transcript_in (Err (LineTooLong written)) = written.items
transcript_in (Err (TooManyLines written)) = written.items
transcript_in (Err (Workspace e)) = []
transcript_in (Err Memory) = []

-- the file of the workspace, if the lines were played
abbrev pub workspace_in : Result Played PlayError → List ℕ
workspace_in (Ok played) = played.workspace.items
workspace_in (Err e) = []

-- 0, or the number of the refusal
abbrev pub number_in : Result Played PlayError → ℕ
number_in (Ok played) = 0
number_in (Err e) = play_number e

-- bytes at the start of a buffer, which keeps what it held behind them
abbrev pub laid : List ℕ → List ℕ → List ℕ
laid bytes buffer = bytes ++ drop (length bytes) buffer

-- both have room in their buffers
abbrev pub has_room : Result Played PlayError → List ℕ → List ℕ → Bool
has_room outcome transcript after = nat_le (length (transcript_in outcome)) (length transcript) && nat_le (length (workspace_in outcome)) (length after)

-- A call's answer, of what playing the lines comes to: both sizes always; where both have room they lie in their buffers and the number is that of the
-- outcome, and else it is 9 and the buffers are as before.
pub record Answers (steps : ℕ) (workspace lines : List ℕ) (number transcript_length workspace_length : ℕ)
    (transcript transcript' after after' : List ℕ) : Type 0 where
  pub outcome : Result Played PlayError
  pub comes : ComesTo steps workspace lines outcome
  pub transcript_told : transcript_length ≡ length (transcript_in outcome)
  pub workspace_told : workspace_length ≡ length (workspace_in outcome)
  pub numbered : number ≡ (if has_room outcome transcript after then number_in outcome else 9)
  pub transcript_laid : transcript' ≡ (if has_room outcome transcript after then laid (transcript_in outcome) transcript else transcript)
  pub workspace_laid : after' ≡ (if has_room outcome transcript after then laid (workspace_in outcome) after else after)
