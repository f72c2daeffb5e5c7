use Rattle.std.proofs.Common.{◌≡◌, take}
use Rattle.apl_parts.proofs.standing.slots_again.Given as goal

abbrev pub invariant-loop-slot : goal.invariant-loop-slot
invariant-loop-slot l = l.again.items ≡ take l.slot-index l.slot-items
