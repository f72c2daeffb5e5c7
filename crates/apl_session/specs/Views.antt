-- What the events of a session stand for.
use Rattle.std.specs.Prelude.{List, map}
use Rattle.apl_session.specs.Events as model
use Rattle.apl_session.specs.declared.session.Event.{Event}
use Rattle.apl_session.specs.declared.session.Event.TheVariants.{Line, Steps, Interrupt}

abbrev pub event : Event → model.Event
event (Line bytes) = model.Line bytes
event (Steps count) = model.Steps count
event Interrupt = model.Interrupt

abbrev pub event_list : List Event → List model.Event
event_list events = map event events
