use Rattle.std.proofs.Common.{◌≡◌, take}
use Rattle.std.specs.Prelude.{count_by}
use Rattle.apl_select.specs.Compress.{is_one}
use Rattle.apl_select.proofs.bits.ones_in_block.Given as goal

abbrev pub invariant-loop-number : goal.invariant-loop-number
invariant-loop-number g l = l.count ≡ count_by is_one (take l.number-index (g.L.Lane.numbers l.block))
