use Rattle.std.proofs.Common.{◌≡◌, drop}
use Rattle.indexmap.specs.IndexMap.{keys}
use Rattle.apl_names.specs.Maps.{kinds_in, last_map, said}
use Rattle.apl_names.specs.Slots.{held_of, maps_of, listed}
use Rattle.apl_names.proofs.global_scope.kinds.Given as goal

-- those of the slots from here on
abbrev pub invariant-loop-slot : goal.invariant-loop-slot
invariant-loop-slot l = l.kinds.entries ≡ kinds_in (listed (drop l.slot (keys l.symbols)) (said (last_map (maps_of (held_of l.symbols.entries l.scopes)))))
