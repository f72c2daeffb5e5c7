use Rattle.std.proofs.Common.{◌≡◌, map, take}
use Rattle.apl_listing.specs.Kinds.{is_empty}
use Rattle.apl_listing.proofs.stack.empty_slots.Given as goal

abbrev pub invariant-loop-source : goal.invariant-loop-source
invariant-loop-source l = l.empty.items ≡ map is_empty (take l.source-index l.sources)
