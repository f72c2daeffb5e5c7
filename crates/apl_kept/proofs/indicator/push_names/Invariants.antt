use Rattle.std.proofs.Common.{◌≡◌, ◌++◌, drop, map}
use Rattle.apl_kept.specs.Indicator.{local_in}
use Rattle.apl_kept.specs.inside.Calls.{map_at}
use Rattle.apl_kept.proofs.indicator.push_names.Given as goal

abbrev pub invariant-loop-name : goal.invariant-loop-name
invariant-loop-name l = l.locals.items ++ map (local_in (map_at l.machine l.k)) (drop l.name-index l.names) ≡ l.fn.locals.items ++ map (local_in (map_at l.machine l.k)) l.names
