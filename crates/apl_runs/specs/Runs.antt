-- How a run over an input reads its lines, and where it stands when it ends.
use Rattle.std.specs.Prelude.{◌≡◌, ◌≢◌, ℕ, ◌<◌, ◌≤◌, ◌==◌, Bool, not, true, false, List, [], ◌∷◌, ◌++◌, length, IsTrue, Result, Ok, Err, ⊤}
use Rattle.std.specs.List.{AllByRecursion, list_all}
use Rattle.apl_runs.specs.Transcript.{ended, unfinished, complete_lines, lines_of, without_return, transcript_of, after_input, transcript}
use Rattle.apl_runs.specs.Ways.{Way}
use Rattle.apl_devices.specs.Devices.{Extends}
use Rattle.apl_runs.specs.declared.runs.RunError.{RunError}
use Rattle.apl_runs.specs.declared.runs.RunError.TheVariants.{Read, Write, Memory, LineTooLong, TooManyLines}

-- whether the reader has failed after what answers so: Read tells that it did, and with any other answer it is as before
abbrev pub reader_failed : {A : Type 0} → Result A RunError → Bool → Bool
reader_failed (Err Read) before = true
reader_failed answer before = before

-- the same of the writer
abbrev pub writer_failed : {A : Type 0} → Result A RunError → Bool → Bool
writer_failed (Err Write) before = true
writer_failed answer before = before

-- Each line has at most 2,000 bytes before its line feed, and there are at most 1,000,000 lines.
pub record IsWithinLimits (input : List ℕ) : Type 0 where
  pub ended_short : AllByRecursion (λ line. length line ≤ 2000) (ended input)
  pub unfinished_short : length (unfinished input) ≤ 2000
  pub few : length (lines_of input) ≤ 1000000

-- A run from s in a way came to the end of its input: the input is within the limits, all of it was read, its transcript was written, and m is what the run
-- gives of the state behind the end.
pub record HasEnded {S M : Type 0} (gives : S → M) (way : Way S) (s : S) (m : M) (before after : List ℕ) (tells : Bool) (old new : List ℕ) : Type 0 where
  pub within : IsWithinLimits before
  pub read : after ≡ []
  pub state : m ≡ gives (way.quiet (after_input way s before))
  pub wrote : IsTrue tells → new ≡ old ++ transcript way s before

-- The byte behind an input within the limits that an error refuses: the 2,001st of a line, or the first behind 1,000,000 lines; other errors refuse none.
abbrev pub IsDue : RunError → List ℕ → List ℕ → Type 0
IsDue LineTooLong taken refused = (length (unfinished taken) ≡ 2000) × ((b : ℕ) × (b ≢ 10) × (refused ≡ b ∷ []))
IsDue TooManyLines taken refused = (length (ended taken) ≡ 1000000) × (unfinished taken ≡ []) × (length refused ≡ 1)
IsDue Read taken refused = refused ≡ []
IsDue Write taken refused = refused ≡ []
IsDue Memory taken refused = refused ≡ []

-- What the input taken may write when these bytes are left: a piece behind the last line feed is a line, and the input is at its end, only where nothing is left.
abbrev pub text_taken : {S : Type 0} → Way S → S → List ℕ → List ℕ → List ℕ
text_taken way s taken [] = transcript way s taken
text_taken way s taken (b ∷ after) = transcript_of way s (complete_lines taken)

-- What is written by then: all that the complete lines write, or, where writing failed or memory ran out, a prefix of what the input taken may write.
abbrev pub IsWritten : {S : Type 0} → RunError → Way S → S → List ℕ → List ℕ → List ℕ → List ℕ → Type 0
IsWritten Write way s taken after old new = Extends old new (text_taken way s taken after)
IsWritten Memory way s taken after old new = Extends old new (text_taken way s taken after)
IsWritten Read way s taken after old new = new ≡ old ++ transcript_of way s (complete_lines taken)
IsWritten LineTooLong way s taken after old new = new ≡ old ++ transcript_of way s (complete_lines taken)
IsWritten TooManyLines way s taken after old new = new ≡ old ++ transcript_of way s (complete_lines taken)

-- Lines are done in turn: of those that were taken all but the last have written all that they write. So what a line writes is written before the next line
-- is read, and where the writer fails nothing was read behind the line that it failed at.
pub record IsInTurn {S : Type 0} (way : Way S) (s : S) (taken old new : List ℕ) : Type 0 where
  pub done : List (List ℕ)
  pub last : List (List ℕ)
  pub one : length last ≤ 1
  pub lines : lines_of taken ≡ done ++ last
  pub more : List ℕ
  pub wrote : new ≡ old ++ transcript_of way s done ++ more

-- Where a run from s in a way stopped: it took an input within the limits, read the refused byte behind it, if there is one, and nothing further, and wrote what is due by then.
pub record StoppedAt {S : Type 0} (error : RunError) (way : Way S) (s : S) (before after : List ℕ) (tells : Bool) (old new : List ℕ) : Type 0 where
  pub taken : List ℕ
  pub refused : List ℕ
  pub read : before ≡ taken ++ refused ++ after
  pub within : IsWithinLimits taken
  pub due : IsDue error taken refused
  pub wrote : IsTrue tells → IsWritten error way s taken after old new
  pub in_turn : IsTrue tells → IsInTurn way s taken old new

-- What a run from s in a way does, by its result: it came to the end of its input, or stopped. The bytes left are those before and after it, the bytes written
-- the old and the new ones, where the writer tells them.
abbrev pub Ran : {S M : Type 0} → (S → M) → Way S → S → Result M RunError → List ℕ → List ℕ → Bool → List ℕ → List ℕ → Type 0
Ran gives way s (Ok m) before after tells old new = HasEnded gives way s m before after tells old new
Ran gives way s (Err e) before after tells old new = StoppedAt e way s before after tells old new

-- how a run from s to s' ends
abbrev pub EndsRun : {A S : Type 0} → Result A RunError → Way S → S → S → List ℕ → List ℕ → Bool → List ℕ → List ℕ → Type 0
EndsRun (Ok x) way s s' before after tells old new = HasEnded (λ t. t) way s s' before after tells old new
EndsRun (Err e) way s s' before after tells old new = StoppedAt e way s before after tells old new

-- an error of running or writing a line
abbrev pub StopsWriting : RunError → Type 0
StopsWriting Write = ⊤
StopsWriting Memory = ⊤
StopsWriting Read = ⊥
StopsWriting LineTooLong = ⊥
StopsWriting TooManyLines = ⊥

-- what writing a text does: it is written, or a prefix of it after an error
abbrev pub Writes : {A : Type 0} → Result A RunError → List ℕ → Bool → List ℕ → List ℕ → Type 0
Writes (Ok x) text tells old new = IsTrue tells → new ≡ old ++ text
Writes (Err e) text tells old new = StopsWriting e × (IsTrue tells → Extends old new text)

-- a piece of a line within the limit: at most 2,000 bytes and no line feed
pub record IsPiece (piece : List ℕ) : Type 0 where
  pub unbroken : list_all (λ b. not (b == 10)) piece ≡ true
  pub short : length piece ≤ 2000

-- the bytes left begin with a piece
pub record BeginsWith (piece old new : List ℕ) : Type 0 where
  pub is_piece : IsPiece piece
  pub read : old ≡ piece ++ new

-- they begin with a piece and a byte more of its line
pub record BeginsWithMore (piece old new : List ℕ) : Type 0 where
  pub is_piece : IsPiece piece
  pub byte : ℕ
  pub no_feed : byte ≢ 10
  pub read : old ≡ piece ++ byte ∷ new

-- a line was read with its line feed
pub record BeginsWithLine (line old new : List ℕ) : Type 0 where
  pub piece : List ℕ
  pub is_piece : IsPiece piece
  pub read : old ≡ piece ++ 10 ∷ new
  pub kept : line ≡ without_return piece

-- what was left has no line feed, and all of it was read
pub record IsLast (line old new : List ℕ) : Type 0 where
  pub is_piece : IsPiece line
  pub read : old ≡ line
  pub end : new ≡ []

-- What reading a line does to the bytes left: at true it was ended by a line feed, at false by the end. After an error the buffer holds what was read of the line, without a byte for which there was no room.
abbrev pub ReadsLine : List ℕ → Result Bool RunError → List ℕ → List ℕ → Type 0
ReadsLine old (Ok true) line new = BeginsWithLine line old new
ReadsLine old (Ok false) line new = IsLast line old new
ReadsLine old (Err Read) line new = BeginsWith line old new
ReadsLine old (Err Memory) line new = BeginsWithMore line old new × (length line < 2000)
ReadsLine old (Err LineTooLong) line new = BeginsWithMore line old new × (length line ≡ 2000)
ReadsLine old (Err Write) line new = ⊥
ReadsLine old (Err TooManyLines) line new = ⊥

-- what asking for the end behind the last line that may be does to the bytes left
abbrev pub ReadsEnd : {A : Type 0} → List ℕ → Result A RunError → List ℕ → Type 0
ReadsEnd old (Ok x) new = (old ≡ []) × (new ≡ [])
ReadsEnd old (Err TooManyLines) new = (b : ℕ) × (old ≡ b ∷ new)
ReadsEnd old (Err Read) new = new ≡ old
ReadsEnd old (Err Memory) new = ⊥
ReadsEnd old (Err LineTooLong) new = ⊥
ReadsEnd old (Err Write) new = ⊥
