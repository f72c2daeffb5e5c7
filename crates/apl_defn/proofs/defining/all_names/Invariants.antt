use Rattle.std.proofs.Common.{◌≡◌, ◌++◌, map, drop}
use Rattle.apl_defn.specs.Headers.{names_of}
use Rattle.apl_defn.proofs.defining.all_names.Given as goal

abbrev pub invariant-loop-name : goal.invariant-loop-name
invariant-loop-name l = l.names.items ++ map (λ label. label.0) (drop l.name-index l.labels) ≡ names_of l.header ++ map (λ label. label.0) l.labels
