use Rattle.std.proofs.Common.{◌≡◌, map, pos}
use Rattle.apl_arrays.specs.Written.{with_items}
use Rattle.apl_arrays.proofs.put.write_lane.Given as goal

abbrev pub invariant-loop-k : goal.invariant-loop-k
invariant-loop-k g l =
    map g.L.Lane.value l.out ≡ with_items (pos 0) (g.L.Lane.numbers l.initial.out) l.places (g.M.Lane.numbers l.items) l.k
