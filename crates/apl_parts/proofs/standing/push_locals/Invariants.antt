use Rattle.std.proofs.Common.{◌≡◌, ◌++◌, drop, take}
use Rattle.apl_names.specs.Maps.{first_map}
use Rattle.apl_parts.specs.Taken.{values_in}
use Rattle.apl_parts.proofs.standing.push_locals.Given as goal

abbrev pub invariant-loop-name : goal.invariant-loop-name
invariant-loop-name l = l.locals.items ≡ l.fn.locals.items ++ values_in (first_map (drop l.scope l.names)) (take l.name-index l.header_locals)
