use Rattle.std.proofs.Common.{◌≡◌, ◌+◌, ◌-◌, ◌++◌, length, map}
use Rattle.std.specs.List.{range_with_len}
use Rattle.apl_arrays.specs.inside.Joins.{joined_axis, joined_skip, sum_of, turned_axes, turned_skip}
use Rattle.apl_arrays.specs.Views.{rank_of}
use Rattle.apl_arrays.proofs.join.turn.Given as goal

abbrev pub invariant-loop-number : goal.invariant-loop-number
invariant-loop-number l = record {
  axes : l.turned.items ++ map (joined_axis l.numbers l.axes) (range_with_len l.number (rank_of l.numbers - l.number)) ≡ turned_axes l.numbers l.axes;
  count : length l.turned.items ≡ l.number;
  skip : l.skipped + sum_of (joined_skip l.numbers l.axes) l.number (rank_of l.numbers - l.number) ≡ turned_skip l.numbers l.axes;
}
