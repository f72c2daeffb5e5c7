use Rattle.std.proofs.Common.{◌≡◌, replicate}
use Rattle.apl_reshape.proofs.lengths.ones.Given as goal

abbrev pub invariant-loop : goal.invariant-loop
invariant-loop l = l.lengths.items ≡ replicate l.counter 1
