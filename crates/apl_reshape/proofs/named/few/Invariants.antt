use Rattle.std.proofs.Common.{◌≡◌, take}
use Rattle.apl_arrays.specs.Numbers.{values}
use Rattle.apl_reshape.proofs.named.few.Given as goal

abbrev pub invariant-loop-k : goal.invariant-loop-k
invariant-loop-k l = l.few.items ≡ take l.k (values l.numbers)
