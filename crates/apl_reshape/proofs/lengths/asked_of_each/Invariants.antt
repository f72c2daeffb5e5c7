use Rattle.std.proofs.Common.{◌≡◌, length, take}
use Rattle.apl_reshape.specs.inside.Asked.{asked_of}
use Rattle.apl_reshape.specs.Take.{each_axis}
use Rattle.apl_reshape.proofs.lengths.asked_of_each.Given as goal

abbrev pub invariant-loop-axis : goal.invariant-loop-axis
invariant-loop-axis l = record {
  made : l.numbers.items ≡ each_axis (asked_of l.asked) (take l.axis l.shape) (take l.axis l.counts);
  count : length l.numbers.items ≡ l.axis;
}
