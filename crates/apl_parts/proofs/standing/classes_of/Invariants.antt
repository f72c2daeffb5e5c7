use Rattle.std.proofs.Common.{◌≡◌, take}
use Rattle.apl_parts.specs.Taken.{classes_of}
use Rattle.apl_parts.proofs.standing.classes_of.Given as goal

abbrev pub invariant-loop-item : goal.invariant-loop-item
invariant-loop-item l = l.classes.items ≡ classes_of (take l.item-index l.items)
