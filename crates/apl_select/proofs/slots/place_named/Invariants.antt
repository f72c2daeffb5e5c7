use Rattle.std.proofs.Common.{◌≡◌, ◌+◌, ◌*◌, ◌≤◌, drop}
use Rattle.apl_arrays.specs.Index.{bound_of}
use Rattle.apl_select.specs.inside.Single.{placed}
use Rattle.apl_select.proofs.slots.place_named.Given as goal

abbrev pub invariant-loop-axis : goal.invariant-loop-axis
invariant-loop-axis l = record {
  so_far : placed l.origin l.place (drop l.axis l.shape) (drop l.axis l.slots) ≡ placed l.origin 0 l.shape l.slots;
  small : (l.place + 1) * bound_of (drop l.axis l.shape) ≤ bound_of l.shape;
}
