use Rattle.std.proofs.Common.{◌≡◌, ◌&&◌, drop}
use Rattle.std.specs.List.{list_all}
use Rattle.apl_select.specs.Compress.{is_bit}
use Rattle.apl_select.proofs.bits.all_are_bits.Given as goal

abbrev pub invariant-loop-number : goal.invariant-loop-number
invariant-loop-number g l = (l.all && list_all is_bit (drop l.number-index (g.L.Lane.numbers l.numbers))) ≡ list_all is_bit (g.L.Lane.numbers l.numbers)
