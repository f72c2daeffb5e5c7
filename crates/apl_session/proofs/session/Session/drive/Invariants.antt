use Rattle.std.proofs.Common.{◌≡◌, take}
use Rattle.apl_session.specs.Events as model
use Rattle.apl_session.specs.Views.{event_list}
use Rattle.apl_session.proofs.session.Session.drive.Given as goal

abbrev pub invariant-loop-i : goal.invariant-loop-i
invariant-loop-i l = l.self ≡ model.after l.fn.self (take l.i (event_list l.events))
