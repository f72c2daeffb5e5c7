-- Whatever comes, the contexts stand in order.
use Rattle.std.specs.Prelude.{List}
use Rattle.apl_machine_state.specs.State.{State}
use Rattle.apl_order.specs.Order.{AreInOrder}
use Rattle.apl_session.specs.Events.{Event, after}

-- whatever lines are typed, steps made and interrupts sent, in whatever order
abbrev pub AlwaysInOrder : Type 0
AlwaysInOrder = (s : State) (events : List Event) → AreInOrder s.contexts → AreInOrder (after s events).contexts
