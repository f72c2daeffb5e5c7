use Rattle.std.proofs.Common.{◌≡◌, take}
use Rattle.apl_arrays.proofs.shape.lengths.Given as goal

abbrev pub invariant-loop-length : goal.invariant-loop-length
invariant-loop-length l = l.again.items ≡ take l.length-index l.shape
