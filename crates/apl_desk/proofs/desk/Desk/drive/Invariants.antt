use Rattle.std.proofs.Common.{◌≡◌, length, take}
use Rattle.apl_desk.specs.Views.{addressed_list}
use Rattle.apl_desk.proofs.Alone.{after_all}
use Rattle.apl_desk.proofs.desk.Desk.drive.Given as goal

abbrev pub invariant-loop-pair : goal.invariant-loop-pair
invariant-loop-pair l = (l.self ≡ after_all l.initial.self (addressed_list (take l.pair l.pairs))) × (length l.self ≡ length l.initial.self)
