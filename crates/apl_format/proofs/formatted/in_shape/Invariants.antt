use Rattle.std.proofs.Common.{◌≡◌, take}
use Rattle.apl_format.proofs.formatted.in_shape.Given as goal

abbrev pub invariant-loop-length : goal.invariant-loop-length
invariant-loop-length l = l.shape.items ≡ take l.length-index l.outer
