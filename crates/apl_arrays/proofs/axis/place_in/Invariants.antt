use Rattle.std.proofs.Common.{◌≡◌, ◌≤◌, drop}
use Rattle.apl_arrays.specs.Index.{is_within}
use Rattle.apl_arrays.specs.Strides.{lengths, place_at, reach_of}
use Rattle.apl_arrays.proofs.axis.place_in.Given as goal

abbrev pub invariant-loop-k : goal.invariant-loop-k
invariant-loop-k l = record {
  within : is_within (lengths (drop l.k l.axes)) (drop l.k l.index) ≡ is_within (lengths l.axes) l.index;
  place : place_at l.place (drop l.k l.axes) (drop l.k l.index) ≡ place_at l.offset l.axes l.index;
  near : reach_of l.place (drop l.k l.axes) ≤ reach_of l.offset l.axes;
}
