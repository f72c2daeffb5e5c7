use Rattle.std.proofs.Common.{◌≡◌, take}
use Rattle.apl_parts.proofs.standing.operands_again.Given as goal

abbrev pub invariant-loop-operand : goal.invariant-loop-operand
invariant-loop-operand l = l.again.items ≡ take l.operand-index l.operands
