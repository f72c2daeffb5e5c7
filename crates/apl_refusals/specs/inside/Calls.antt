-- What a call of a session stands for.
-- The events are those of `Events`, by which sessions are defined.
use Rattle.std.specs.Prelude.{ℕ, List}
use Rattle.apl_session.specs.Events as model
use Rattle.apl_refusals.specs.declared.player.Call.{Call}
use Rattle.apl_refusals.specs.declared.player.Call.TheVariants.{Line, Step, Interrupt}

-- the event that a call is, where this line is due
abbrev pub event_of : Call → List ℕ → model.Event
event_of Line line = model.Line line
event_of Step line = model.Steps 1
event_of Interrupt line = model.Interrupt
