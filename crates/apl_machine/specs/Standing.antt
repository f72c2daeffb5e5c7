-- What is seen of standing calls.
use Rattle.std.specs.Prelude.{ℕ, Bool, List, [], ◌∷◌, Option, Some, None}
use Rattle.apl_defn.specs.Definitions.{Text, Definition, line_of}
use Rattle.apl_machine_state.specs.Items.{Content, Awaited, Item, Rest}
use Rattle.apl_machine_state.specs.Environment.{Context, Statement, Call, Execute, is_suspended}
use Rattle.apl_machine.specs.declared.standing.Standing.{Standing}

-- A standing call: its function as it stood when the call began, the number and the text of its line, the column at which the line awaits an answer, if
-- it does, and whether the call is suspended before the line.
pub record Seen : Type 0 where
  pub definition : Definition
  pub line : ℕ
  pub text : Text
  pub hole : Option ℕ
  pub suspended : Bool

-- the column of the hole among items, if there is one
abbrev pub hole_by : Content → ℕ → Option ℕ → Option ℕ
hole_by Awaited at later = Some at
hole_by content at later = later

abbrev pub hole_among : List Item → Option ℕ
hole_among [] = None
hole_among (item ∷ items) = hole_by item.content item.at (hole_among items)

abbrev pub hole_in : Option Rest → Option ℕ
hole_in None = None
hole_in (Some rest) = hole_among rest.items

abbrev pub seen_call : Definition → ℕ → Option Rest → Seen
seen_call d n rest = record { definition = d; line = n; text = line_of d n; hole = hole_in rest; suspended = is_suspended rest }

-- the standing calls, newest first
abbrev pub calls_in : List Context → List Seen
calls_in [] = []
calls_in (Statement text rest ∷ below) = calls_in below
calls_in (Call d n locals rest ∷ below) = seen_call d n rest ∷ calls_in below
calls_in (Execute text rest ∷ below) = calls_in below

-- what stands for a call
abbrev pub seen : Standing → Seen
seen s = record { definition = s.definition.now; line = s.line; text = s.text.now; hole = s.hole; suspended = s.suspended }
