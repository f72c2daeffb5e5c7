use Rattle.std.proofs.Common.{◌≡◌, ◌<◌, ◌≤◌, drop}
use Rattle.apl_arrays.specs.Index.{size_of}
use Rattle.apl_arrays.specs.Nth.{index_at}
use Rattle.apl_arrays.specs.Strides.{lengths, place_at, reach_of}
use Rattle.apl_arrays.proofs.axis.nth_place.Given as goal

abbrev pub invariant-loop-axis : goal.invariant-loop-axis
invariant-loop-axis l = record {
  size : l.size ≡ size_of (lengths (drop l.axis-index l.axes));
  rest : l.rest < l.size;
  place : place_at l.place (drop l.axis-index l.axes) (index_at (lengths (drop l.axis-index l.axes)) l.rest) ≡ place_at l.offset l.axes (index_at (lengths l.axes) l.nth);
  near : reach_of l.place (drop l.axis-index l.axes) ≤ reach_of l.offset l.axes;
}
