use Rattle.std.proofs.Common.{◌≡◌, ◌++◌, replicate}
use Rattle.apl_reshape.proofs.pieces.repeat.Given as goal

abbrev pub invariant-loop : goal.invariant-loop
invariant-loop g l = l.out.items ≡ l.initial.out.items ++ replicate l.counter l.item
