use Rattle.std.proofs.Common.{◌≡◌, ◌≤◌, take}
use Rattle.std.specs.List.{sum}
use Rattle.apl_format.proofs.width.line_width.Given as goal

abbrev pub invariant-loop-place : goal.invariant-loop-place
invariant-loop-place g l = record {
  sum : l.so_far ≡ sum (take l.place (g.W.Wide.widths l.items));
  small : l.so_far ≤ 1000000;
}
