use Rattle.std.proofs.Common.{◌≡◌, take, drop}
use Rattle.apl_arrays.proofs.InTurn.{after}
use Rattle.apl_select.specs.Indexing.{all_picked}
use Rattle.apl_select.specs.inside.Reached.{AreOnAxes}
use Rattle.apl_select.proofs.slots.pick_all.Given as goal

abbrev pub invariant-loop-k : goal.invariant-loop-k
invariant-loop-k l = record {
  so_far : after l.picks.items (all_picked (drop l.k l.shape) l.origin (drop l.k l.slots)) ≡ all_picked l.shape l.origin l.slots;
  on_axes : AreOnAxes (take l.k l.shape) l.picks.items;
}
