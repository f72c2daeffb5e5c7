use Rattle.std.proofs.Common.{◌≡◌, ◌++◌, drop, map}
use Rattle.apl_kept.specs.Indicator.{local_in}
use Rattle.apl_kept.specs.inside.Calls.{map_at}
use Rattle.apl_kept.proofs.indicator.push_labels.Given as goal

abbrev pub invariant-loop-name : goal.invariant-loop-name
invariant-loop-name l = l.locals.items ++ map (λ x. local_in (map_at l.machine l.k) x.0) (drop l.name-index l.labels) ≡ l.fn.locals.items ++ map (λ x. local_in (map_at l.machine l.k) x.0) l.labels
