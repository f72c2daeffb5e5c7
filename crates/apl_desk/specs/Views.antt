-- What the pairs of a desk's events stand for.
use Rattle.std.specs.Prelude.{List, map, ℕ}
use Rattle.apl_session.specs.declared.session.Event.{Event}
use Rattle.apl_session.specs.Views.{event}
use Rattle.apl_desk.specs.Desk.{Addressed}

abbrev pub addressed : ℕ × Event → Addressed
addressed pair = record { number = pair.0; event = event pair.1 }

abbrev pub addressed_list : List (ℕ × Event) → List Addressed
addressed_list pairs = map addressed pairs
