use Rattle.std.proofs.Common.{◌≡◌, map, take, unsigned_abs}
use Rattle.apl_reshape.proofs.named.magnitudes.Given as goal

abbrev pub invariant-loop-number : goal.invariant-loop-number
invariant-loop-number l = l.lengths.items ≡ map unsigned_abs (take l.number-index l.numbers)
