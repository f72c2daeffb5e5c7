use Rattle.std.proofs.Common.{◌≡◌, drop}
use Rattle.apl_arrays.specs.Axes.{without}
use Rattle.apl_arrays.specs.Checks.{same}
use Rattle.apl_turns.proofs.rotation.is_without.Given as goal

abbrev pub invariant-loop-other : goal.invariant-loop-other
invariant-loop-other l = same (drop l.other l.shape) (drop l.other (without l.axis l.whole)) ≡ same l.shape (without l.axis l.whole)
