use Rattle.std.proofs.Common.{◌≡◌, ◌-◌, length, map}
use Rattle.std.specs.List.{range_with_len}
use Rattle.apl_turns.proofs.views.other_order.Given as goal

abbrev pub invariant-loop-m : goal.invariant-loop-m
invariant-loop-m l = record {
  so_far : l.axes.items ≡ map (λ m. l.rank - 1 - m) (range_with_len 0 l.m);
  count : length l.axes.items ≡ l.m;
}
