use Rattle.std.proofs.Common.{◌≡◌, ◌*◌, [], map}
use Rattle.apl_arrays.specs.Left.{listed}
use Rattle.apl_format.specs.Display.{joined, row_line, planes}
use Rattle.apl_format.proofs.lines.plane_lines.Given as goal

abbrev pub invariant-loop-plane : goal.invariant-loop-plane
invariant-loop-plane l = record {
  place : l.place ≡ l.plane * (l.height * l.columns);
  written : l.lines.items ≡ joined [] (map (map (row_line l.widths)) (planes l.plane l.height l.columns (listed l.items)));
}
