use Rattle.std.proofs.Common.{◌≡◌, suc, ◌++◌, drop}
use Rattle.apl_defn.specs.Defining.{labels_from}
use Rattle.apl_defn.proofs.defining.labels_of.Given as goal

abbrev pub invariant-loop-i : goal.invariant-loop-i
invariant-loop-i l = l.labels.items ++ labels_from (suc l.i) (drop l.i l.lines) ≡ labels_from 1 l.lines
