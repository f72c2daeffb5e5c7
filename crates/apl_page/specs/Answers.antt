-- What calls that read a session answer in a buffer.
use Rattle.std.specs.Prelude.{◌≡◌, ◌⊎◌, ℕ, nat_le, List, ◌++◌, drop, length, IsFalse, IsTrue, Option, Some, None, Result, Ok, Err, if◌then◌else◌}
use Rattle.apl_machine_state.specs.State.{is_idle}
use Rattle.apl_session.specs.Defining.{closed}
use Rattle.apl_workspace.specs.Saved.{IsLoaded, IsSavedAs, settled}
use Rattle.apl_page.specs.Numbers.{refusal_number}
use Rattle.apl_page.specs.Places.{Keeping}
use Rattle.apl_page.specs.declared.refusal.Refusal.{Refusal}
use Rattle.apl_page.specs.declared.refusal.Refusal.TheVariants.{Memory, Running, NoFunction}

-- bytes at the start of a buffer, which keeps what it held behind them
abbrev pub laid : List ℕ → List ℕ → List ℕ
laid bytes buffer = bytes ++ drop (length bytes) buffer

-- What a call answers that comes to bytes or is refused. The bytes lie at the start of the buffer; where it is too small for them it stays, and the
-- number is 9; how many they are is told. A refusal changes nothing.
abbrev pub Gives : Result (List ℕ) Refusal → ℕ → List ℕ → List ℕ → ℕ → ℕ → Type 0
Gives (Ok bytes) number old new size size' =
    (number ≡ (if nat_le (length bytes) (length old) then 0 else 9)) × (new ≡ (if nat_le (length bytes) (length old) then laid bytes old else old)) × (size' ≡ length bytes)
Gives (Err refusal) number old new size size' = (number ≡ refusal_number refusal) × (new ≡ old) × (size' ≡ size)

-- What is due comes of a call, or memory has run out.
abbrev pub IsDue : Result (List ℕ) Refusal → Result (List ℕ) Refusal → Type 0
IsDue due outcome = (outcome ≡ due) ⊎ (outcome ≡ Err Memory)

-- The file of a session's workspace comes of a call, and what is loaded of it is the same state; or the session runs; or memory has run out where it
-- doesn't.
abbrev pub IsFile : Keeping → Result (List ℕ) Refusal → Type 0
IsFile k (Ok bytes) = IsTrue (is_idle k.state) × IsSavedAs bytes (closed k.state) × IsLoaded bytes (settled k.state)
IsFile k (Err Running) = IsFalse (is_idle k.state)
IsFile k (Err Memory) = IsTrue (is_idle k.state)
IsFile k (Err NoFunction) = ⊥

-- A call gives what Comes of the session at a place; where none stands there it changes nothing, and the number is 17.
abbrev pub Reads : (Keeping → Result (List ℕ) Refusal → Type 0) → Option Keeping → ℕ → List ℕ → List ℕ → ℕ → ℕ → Type 0
Reads Comes None number old new size size' = (number ≡ 17) × (new ≡ old) × (size' ≡ size)
Reads Comes (Some k) number old new size size' = (outcome : Result (List ℕ) Refusal) × Comes k outcome × Gives outcome number old new size size'
