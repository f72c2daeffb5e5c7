use Rattle.std.proofs.Common.{◌≡◌, ◌++◌, drop, length}
use Rattle.apl_arrays.specs.Strides.{whole_axes}
use Rattle.apl_arrays.proofs.axis.axes_of.Given as goal

abbrev pub invariant-loop-k : goal.invariant-loop-k
invariant-loop-k l = record {
  so_far : l.axes.items ++ whole_axes (drop l.k l.shape) ≡ whole_axes l.shape;
  count : length l.axes.items ≡ l.k;
}
