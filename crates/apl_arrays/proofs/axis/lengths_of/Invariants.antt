use Rattle.std.proofs.Common.{◌≡◌, ◌++◌, drop, length}
use Rattle.apl_arrays.specs.Strides.{lengths}
use Rattle.apl_arrays.proofs.axis.lengths_of.Given as goal

abbrev pub invariant-loop-axis : goal.invariant-loop-axis
invariant-loop-axis l = record {
  so_far : l.shape.items ++ lengths (drop l.axis-index l.axes) ≡ lengths l.axes;
  count : length l.shape.items ≡ l.axis-index;
}
