use Rattle.std.proofs.Common.{◌≡◌, drop}
use Rattle.apl_reshape.specs.inside.Asked.{has_enough}
use Rattle.apl_reshape.proofs.lengths.has_enough.Given as goal

abbrev pub invariant-loop-axis : goal.invariant-loop-axis
invariant-loop-axis l = has_enough (drop l.axis l.shape) (drop l.axis l.lengths) ≡ has_enough l.shape l.lengths
