-- What typed lines, steps and interrupts make of a state.
use Rattle.std.specs.Prelude.{◌≡◌, ℕ, ◌<◌, ◌==◌, not, List, [], ◌∷◌, find, Option, Some, None, if◌then◌else◌}
use Rattle.apl_charset.specs.Decoding.{decoded}
use Rattle.apl_faults.specs.declared.fault.Fault.TheVariants.{Character}
use Rattle.apl_defn.specs.Definitions.{Text}
use Rattle.apl_defn.specs.Blanks.{trimmed}
use Rattle.apl_machine_state.specs.State.{State, is_idle, steps, interrupt}
use Rattle.apl_machine_state.specs.Beginning.{begun}
use Rattle.apl_session.specs.Defining.{refused, behind_mark, typed_behind_del, added}
use Rattle.apl_session.specs.Commands.{commanded}

-- the first character of a text that is no blank
abbrev pub first_mark : Text → Option ℕ
first_mark text = find (λ c. not (c == 32)) text

-- A text with this first mark is typed outside a definition: ) begins a command; ∇ shows a function or opens a definition; every other text is a statement.
abbrev pub typed_behind : State → Text → Option ℕ → State
typed_behind s text None = begun s text
typed_behind s text (Some mark) =
    if mark == 41 then commanded s (behind_mark text)
    else (if mark == 0x2207 then typed_behind_del s (behind_mark text) else begun s text)

-- a text is typed, where these are the lines of the open definition, if one is open
abbrev pub typed_in : State → Option (List Text) → Text → State
typed_in s None text = typed_behind s text (first_mark text)
typed_in s (Some lines) text = added s lines (trimmed text)

-- a line that is no text is CHARACTER ERROR
abbrev pub typed_as : State → Option Text → State
typed_as s None = refused s Character
typed_as s (Some text) = typed_in s s.definition text

-- a line of bytes is typed; it changes nothing in a state that runs
abbrev pub typed : State → List ℕ → State
typed s bytes = if is_idle s then typed_as s (decoded bytes) else s

-- What may happen to a session: a line of bytes is typed, some steps are made, or it is interrupted.
pub data Event : Type 0 where
  Line : (bytes : List ℕ) → Event
  Steps : (count : ℕ) → Event
  Interrupt : Event

abbrev pub after_event : State → Event → State
after_event s (Line bytes) = typed s bytes
after_event s (Steps count) = steps count s
after_event s Interrupt = interrupt s

-- a state after events, the first of them first
abbrev pub after : State → List Event → State
after s [] = s
after s (event ∷ events) = after (after_event s event) events

-- how many steps of an event may be done when it is left before its end
abbrev pub IsPart : ℕ → Option Event → Type 0
IsPart done None = ⊥
IsPart done (Some (Line bytes)) = done ≡ 0
IsPart done (Some (Steps count)) = done < count
IsPart done (Some Interrupt) = done ≡ 0
