use Rattle.std.proofs.Common.{◌≡◌, map, pos, take}
use Rattle.apl_reshape.proofs.shapes.length_numbers.Given as goal

abbrev pub invariant-loop-length : goal.invariant-loop-length
invariant-loop-length l = l.numbers.items ≡ map pos (take l.length-index l.lengths)
