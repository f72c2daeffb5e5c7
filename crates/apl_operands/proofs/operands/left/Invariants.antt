use Rattle.std.proofs.Common.{◌≡◌, ◌≤◌, length, reverse, take, drop}
use Rattle.apl_operands.specs.Operands.{unfetched}
use Rattle.apl_operands.proofs.operands.left.Given as goal

abbrev pub invariant-loop-source : goal.invariant-loop-source
invariant-loop-source l = record {
  within : l.left ≤ length l.stack;
  left : unfetched (drop l.source-index l.sources) (reverse (take l.left l.stack)) ≡ unfetched l.sources (reverse l.stack);
}
