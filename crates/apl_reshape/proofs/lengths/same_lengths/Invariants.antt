use Rattle.std.proofs.Common.{◌≡◌, take}
use Rattle.apl_reshape.proofs.lengths.same_lengths.Given as goal

abbrev pub invariant-loop-length : goal.invariant-loop-length
invariant-loop-length l = l.lengths.items ≡ take l.length-index l.shape
