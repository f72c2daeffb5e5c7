use Rattle.std.proofs.Common.{◌≡◌, ◌+◌, drop}
use Rattle.apl_arrays.specs.inside.Joins.{ups, downs, skips}
use Rattle.apl_arrays.proofs.join.join.Given as goal

abbrev pub invariant-loop-m : goal.invariant-loop-m
invariant-loop-m l = record {
  length : l.joined.length ≡ l.length;
  up : l.joined.up + ups l.number (drop l.m l.numbers) (drop l.m l.axes) ≡ ups l.number l.numbers l.axes;
  down : l.joined.down + downs l.number (drop l.m l.numbers) (drop l.m l.axes) ≡ downs l.number l.numbers l.axes;
  skip : l.skipped + skips l.number l.length (drop l.m l.numbers) (drop l.m l.axes) ≡ skips l.number l.length l.numbers l.axes;
}
