use Rattle.std.proofs.Common.{◌≡◌, suc, drop}
use Rattle.apl_defn.specs.Defining.{first_fault}
use Rattle.apl_defn.proofs.defining.first_fault.Given as goal

abbrev pub invariant-loop-i : goal.invariant-loop-i
invariant-loop-i l = first_fault (suc l.i) (drop l.i l.lines) ≡ first_fault 1 l.lines
