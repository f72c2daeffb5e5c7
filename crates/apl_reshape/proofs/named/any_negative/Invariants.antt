use Rattle.std.proofs.Common.{◌≡◌, drop}
use Rattle.std.specs.Int.{is_negative}
use Rattle.std.specs.List.{list_any}
use Rattle.apl_arrays.specs.Numbers.{values}
use Rattle.apl_reshape.proofs.named.any_negative.Given as goal

abbrev pub invariant-loop-k : goal.invariant-loop-k
invariant-loop-k l = list_any is_negative (drop l.k (values l.numbers)) ≡ list_any is_negative (values l.numbers)
