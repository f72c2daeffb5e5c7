use Rattle.std.proofs.Common.{◌≡◌, drop, length}
use Rattle.apl_arrays.specs.Numbers.{values}
use Rattle.apl_arrays.specs.Results.{all_ok}
use Rattle.apl_arrays.proofs.InTurn.{after}
use Rattle.apl_turns.specs.Turns.{axis_from}
use Rattle.apl_turns.proofs.numbered_axes.axes_from.Given as goal

-- the axes so far and those to come are all the axes
abbrev pub invariant-loop-k : goal.invariant-loop-k
invariant-loop-k l = record {
  so_far : after l.axes.items (all_ok (axis_from l.origin) (drop l.k (values l.numbers))) ≡ all_ok (axis_from l.origin) (values l.numbers);
  count : length l.axes.items ≡ l.k;
}
