use Rattle.std.proofs.Common.{◌≡◌, ◌++◌, take}
use Rattle.apl_arrays.proofs.shape.joined_shape.Given as goal

abbrev pub invariant-loop-length : goal.invariant-loop-length
invariant-loop-length l = l.shape.items ≡ take l.length-index l.a

abbrev pub invariant-loop-length-2 : goal.invariant-loop-length-2
invariant-loop-length-2 l = l.shape.items ≡ l.a ++ take l.length-index l.b
