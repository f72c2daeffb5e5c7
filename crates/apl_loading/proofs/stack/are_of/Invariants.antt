use Rattle.std.proofs.Common.{◌≡◌, ◌↔◌, drop, map}
use Rattle.apl_saved.specs.Rules.{kind_of}
use Rattle.apl_loading.proofs.stack.are_of.Given as goal

abbrev pub invariant-loop-i : goal.invariant-loop-i
invariant-loop-i l = (drop l.i l.kinds ≡ map kind_of (drop l.i l.operands)) ↔ (l.kinds ≡ map kind_of l.operands)
