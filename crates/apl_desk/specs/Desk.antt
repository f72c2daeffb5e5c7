-- Sessions side by side, each with events of its own.
use Rattle.std.specs.Prelude.{◌≡◌, ◌<◌, ◌==◌, ℕ, false, List, length, map, filter, take, Some, slice_get, slice_index_or}
use Rattle.apl_machine_state.specs.State.{State, steps, clear}
use Rattle.apl_session.specs.Events.{Event, IsPart, after}

-- an event of the session of that number
pub record Addressed : Type 0 where
  pub number : ℕ
  pub event : Event

-- the events of one session, in order
abbrev pub own : ℕ → List Addressed → List Event
own k all = map (λ a. a.event) (filter (λ a. a.number == k) all)

-- the session of that number
abbrev pub session : List State → ℕ → State
session sessions k = slice_index_or sessions k clear

-- Each session stands where its own events alone would have led it.
pub record AreAlone (before : List State) (all : List Addressed) (now : List State) : Type 0 where
  pub as_many : length now ≡ length before
  pub alone : (k : ℕ) → k < length before → session now k ≡ after (session before k) (own k all)

-- Memory ran out in the event of this number among all, after so many of its steps: that session has made them besides, and each stands where its
-- own events before that one have led it.
pub record LeftAt (before : List State) (all : List Addressed) (at done : ℕ) (now : List State) : Type 0 where
  pub as_many : length now ≡ length before
  pub next : Addressed
  pub is_next : slice_get all at ≡ Some next
  pub is_part : IsPart done (Some next.event)
  pub itself : session now next.number ≡ steps done (after (session before next.number) (own next.number (take at all)))
  pub others : (k : ℕ) → k < length before → (k == next.number) ≡ false → session now k ≡ after (session before k) (own k (take at all))
