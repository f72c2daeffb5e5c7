use Rattle.std.proofs.Common.{◌≡◌, take}
use Rattle.apl_arrays.proofs.axis.copy_axes.Given as goal

abbrev pub invariant-loop-axis : goal.invariant-loop-axis
invariant-loop-axis l = l.copied.items ≡ take l.axis-index l.axes
