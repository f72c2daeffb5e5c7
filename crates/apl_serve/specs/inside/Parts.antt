-- What the parts of serving do. For private clauses.
use Rattle.std.specs.Prelude.{◌≡◌, ◌≢◌, ℕ, ◌≤◌, ◌<◌, ◌++◌, length, Bool, true, false, List, [], IsTrue, Result, Ok, Err}
use Rattle.serde_json.specs.Data.{Data}
use Rattle.apl_devices.specs.Devices.{Extends}
use Rattle.apl_kept.specs.Keeping.{BeginsWith as Begins}
use Rattle.apl_machine_state.specs.State.{State}
use Rattle.apl_workspace_file.specs.Json.{IsJson}
use Rattle.apl_workspace.specs.Refusals.{IsUnloaded}
use Rattle.apl_workspace.specs.declared.error.LoadError.TheVariants as load
use Rattle.apl_serve.specs.Answers.{Answers, IsUnopened, most}
use Rattle.apl_serve.specs.Serving.{BeginsWith, EndsLine, ReadPiece, endless}
use Rattle.apl_serve.specs.declared.error.Refusal.{Refusal}
use Rattle.apl_serve.specs.declared.error.Refusal.TheVariants as refusal
use Rattle.apl_serve.specs.declared.error.ServeError.{ServeError}
use Rattle.apl_serve.specs.declared.error.ServeError.TheVariants.{Read, Write, TooMany}
use Rattle.apl_serve.specs.declared.lines.Line.{Line}
use Rattle.apl_serve.specs.declared.lines.Line.TheVariants.{End, Whole, Dropped}

-- why bytes aren't opened
abbrev pub IsShut : List ℕ → Refusal → Type 0
IsShut bytes (refusal.Load e) = ((s : State) → ¬ Begins bytes s) × IsUnloaded bytes e × (e ≢ load.Memory)
IsShut bytes refusal.Memory = Unit {0}
IsShut bytes e = ⊥

-- why a tree isn't opened
abbrev pub IsClosed : Data → Refusal → Type 0
IsClosed tree (refusal.Load e) = IsUnopened tree e
IsClosed tree refusal.Memory = Unit {0}
IsClosed tree e = ⊥

-- the bytes of a request aren't read, for this reason
abbrev pub IsUnread : List ℕ → Refusal → Type 0
IsUnread bytes refusal.Json = (tree : Data) → ¬ IsJson bytes tree
IsUnread bytes refusal.Memory = Unit {0}
IsUnread bytes e = ⊥

-- what reading on to the end of a line does to the bytes left
abbrev pub DropsLine : {A : Type 0} → List ℕ → Result A ServeError → List ℕ → Type 0
DropsLine old (Ok x) new = (piece : List ℕ) × EndsLine piece old new
DropsLine old (Err Read) new = (piece : List ℕ) × ReadPiece piece old new
DropsLine old (Err TooMany) new = (piece : List ℕ) × ReadPiece piece old new × (endless ≤ length piece)
DropsLine old (Err Write) new = ⊥

-- a request is dropped for its length, or for want of memory
abbrev pub IsUnkept : List ℕ → Refusal → Type 0
IsUnkept request refusal.Length = most < length request
IsUnkept request refusal.Memory = Unit {0}
IsUnkept request e = ⊥

-- a request that is kept isn't too long
abbrev pub IsShort : Line → Type 0
IsShort End = Unit {0}
IsShort (Whole request) = length request.items ≤ most
IsShort (Dropped e) = Unit {0}

-- what reading a request does to the bytes left
abbrev pub ReadsRequest : List ℕ → Result Line ServeError → List ℕ → Type 0
ReadsRequest old (Ok End) new = (old ≡ []) × (new ≡ [])
ReadsRequest old (Ok (Whole request)) new = BeginsWith request.items old new × (length request.items ≤ most)
ReadsRequest old (Ok (Dropped e)) new = (request : List ℕ) × BeginsWith request old new × IsUnkept request e
ReadsRequest old (Err Read) new = (piece : List ℕ) × ReadPiece piece old new
ReadsRequest old (Err TooMany) new = (piece : List ℕ) × ReadPiece piece old new × (endless ≤ length piece)
ReadsRequest old (Err Write) new = ⊥

-- what writing an answer does
abbrev pub Writes : {A : Type 0} → Result A ServeError → List ℕ → Bool → List ℕ → List ℕ → Type 0
Writes (Ok x) answer tells old new = IsTrue tells → new ≡ old ++ answer
Writes (Err Write) answer tells old new = IsTrue tells → Extends old new answer
Writes (Err Read) answer tells old new = ⊥
Writes (Err TooMany) answer tells old new = ⊥

-- what doing a request and writing its answer does
abbrev pub WritesAnswer : {A : Type 0} → Result A ServeError → State → List ℕ → State → Bool → List ℕ → List ℕ → Type 0
WritesAnswer (Ok x) s request s' tells old new = (answer : List ℕ) × Answers s request s' answer × (IsTrue tells → new ≡ old ++ answer)
WritesAnswer (Err Write) s request s' tells old new = (answer : List ℕ) × Answers s request s' answer × (IsTrue tells → Extends old new answer)
WritesAnswer (Err Read) s request s' tells old new = ⊥
WritesAnswer (Err TooMany) s request s' tells old new = ⊥

-- what reading a request and writing its answer does; at false there was none
abbrev pub ServesOne : Result Bool ServeError → State → State → List ℕ → List ℕ → Bool → List ℕ → List ℕ → Type 0
ServesOne (Ok false) s s' before after tells old new = (s' ≡ s) × (before ≡ []) × (after ≡ []) × (IsTrue tells → new ≡ old)
ServesOne (Ok true) s s' before after tells old new = (request : List ℕ) × BeginsWith request before after
    × ((answer : List ℕ) × Answers s request s' answer × (IsTrue tells → new ≡ old ++ answer))
ServesOne (Err Read) s s' before after tells old new = (s' ≡ s) × ((piece : List ℕ) × ReadPiece piece before after) × (IsTrue tells → new ≡ old)
ServesOne (Err TooMany) s s' before after tells old new = (s' ≡ s) × ((piece : List ℕ) × ReadPiece piece before after × (endless ≤ length piece)) × (IsTrue tells → new ≡ old)
ServesOne (Err Write) s s' before after tells old new = (request : List ℕ) × BeginsWith request before after
    × ((answer : List ℕ) × Answers s request s' answer × (IsTrue tells → Extends old new answer))
