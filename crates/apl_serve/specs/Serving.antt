-- How the requests of an input are answered, one after the other.
use Rattle.std.specs.Prelude.{◌≡◌, ◌≢◌, ◌⊎◌, ℕ, ◌≤◌, ◌==◌, not, length, Bool, true, List, [], ◌∷◌, ◌++◌, IsTrue, Result, Ok, Err}
use Rattle.std.specs.List.{list_all}
use Rattle.apl_devices.specs.Devices.{Extends}
use Rattle.apl_machine_state.specs.State.{State}
use Rattle.apl_serve.specs.Answers.{Answers}
use Rattle.apl_serve.specs.declared.error.ServeError.{ServeError}
use Rattle.apl_serve.specs.declared.error.ServeError.TheVariants.{Read, Write, TooMany}

-- a piece of a line
abbrev pub is_unbroken : List ℕ → Bool
is_unbroken piece = list_all (λ b. not (b == 10)) piece

-- A piece of a line stands at the start, and is all of it: a line feed stands behind it, or the end.
pub record EndsLine (piece old new : List ℕ) : Type 0 where
  pub unbroken : is_unbroken piece ≡ true
  pub read : (old ≡ piece ++ 10 ∷ new) ⊎ ((old ≡ piece) × (new ≡ []))

-- The bytes begin with a request. Where there are none, there is no request.
abbrev pub BeginsWith : List ℕ → List ℕ → List ℕ → Type 0
BeginsWith request old new = EndsLine request old new × (old ≢ [])

-- a piece of a line was read
abbrev pub ReadPiece : List ℕ → List ℕ → List ℕ → Type 0
ReadPiece piece old new = (is_unbroken piece ≡ true) × (old ≡ piece ++ new)

-- The requests stand at the start of the bytes, and others behind them.
abbrev pub BeginWith : List (List ℕ) → List ℕ → List ℕ → Type 0
BeginWith [] old new = new ≡ old
BeginWith (request ∷ requests) old new = (rest : List ℕ) × BeginsWith request old rest × BeginWith requests rest new

-- Requests are answered in turn: each in the state that the one before it left.
abbrev pub AnswersAll : State → List (List ℕ) → State → List ℕ → Type 0
AnswersAll s [] s' answers = (s' ≡ s) × (answers ≡ [])
AnswersAll s (request ∷ requests) s' answers = (t : State) × (first : List ℕ) × (rest : List ℕ)
    × Answers s request t first × AnswersAll t requests s' rest × (answers ≡ first ++ rest)

-- The session was served to the end of the input: all its requests are answered.
pub record HasServed (s s' : State) (before after : List ℕ) (tells : Bool) (old new : List ℕ) : Type 0 where
  pub requests : List (List ℕ)
  pub read : BeginWith requests before []
  pub end : after ≡ []
  pub answers : List ℕ
  pub answered : AnswersAll s requests s' answers
  pub wrote : IsTrue tells → new ≡ old ++ answers

-- Not all of the input was read: all requests that were read are answered, and behind them a piece of one more may have been read.
pub record StoppedReading (s s' : State) (before after : List ℕ) (tells : Bool) (old new : List ℕ) : Type 0 where
  pub requests : List (List ℕ)
  pub rest : List ℕ
  pub read : BeginWith requests before rest
  pub piece : List ℕ
  pub begun : ReadPiece piece rest after
  pub answers : List ℕ
  pub answered : AnswersAll s requests s' answers
  pub wrote : IsTrue tells → new ≡ old ++ answers

-- the most requests that are read, and the most bytes that are looked through for a line feed
abbrev pub endless : ℕ
endless = 18446744073709551615

-- The writer failed: the answers to all requests before the last that was read are written, and a prefix of the answer to that; nothing behind it was read.
pub record FailedToWrite (s s' : State) (before after : List ℕ) (tells : Bool) (old new : List ℕ) : Type 0 where
  pub requests : List (List ℕ)
  pub rest : List ℕ
  pub read : BeginWith requests before rest
  pub last : List ℕ
  pub read_last : BeginsWith last rest after
  pub answers : List ℕ
  pub before_last : State
  pub answered : AnswersAll s requests before_last answers
  pub answer : List ℕ
  pub answered_last : Answers before_last last s' answer
  pub wrote : IsTrue tells → Extends (old ++ answers) new answer

-- how serving a session ends that is in state s before and in s' after it
abbrev pub EndsServing : {A : Type 0} → Result A ServeError → State → State → List ℕ → List ℕ → Bool → List ℕ → List ℕ → Type 0
EndsServing (Ok x) s s' before after tells old new = HasServed s s' before after tells old new
EndsServing (Err Read) s s' before after tells old new = StoppedReading s s' before after tells old new
EndsServing (Err Write) s s' before after tells old new = FailedToWrite s s' before after tells old new
EndsServing (Err TooMany) s s' before after tells old new = (stopped : StoppedReading s s' before after tells old new)
    × ((length stopped.requests ≡ endless) ⊎ (endless ≤ length stopped.piece))

-- whether the reader has failed after what answers so: Read tells that it did, and with any other answer it is as before
abbrev pub reader_failed : {A : Type 0} → Result A ServeError → Bool → Bool
reader_failed (Err Read) before = true
reader_failed answer before = before

-- the same of the writer
abbrev pub writer_failed : {A : Type 0} → Result A ServeError → Bool → Bool
writer_failed (Err Write) before = true
writer_failed answer before = before

-- the number of an error
abbrev pub serve_number : ServeError → ℕ
serve_number Read = 1
serve_number Write = 2
serve_number TooMany = 5
