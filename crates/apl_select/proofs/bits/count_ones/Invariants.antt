use Rattle.std.proofs.Common.{◌≡◌, ◌+◌, length}
use Rattle.std.specs.Prelude.{count_by}
use Rattle.apl_select.specs.Compress.{is_one}
use Rattle.apl_select.proofs.bits.count_ones.Given as goal

-- the ones so far and those of the rest are all
abbrev pub invariant-loop-rest : goal.invariant-loop-rest
invariant-loop-rest g l = l.count + count_by is_one (g.L.Lane.numbers l.rest) ≡ count_by is_one (g.L.Lane.numbers l.numbers)

abbrev pub decreases-loop-rest : goal.decreases-loop-rest
decreases-loop-rest g l = length l.rest
