use Rattle.std.proofs.Common.{◌≡◌, ◌+◌, ◌*◌, ◌++◌, map}
use Rattle.apl_arrays.specs.Left.{listed}
use Rattle.apl_format.specs.Display.{row_line, rows, dropped}
use Rattle.apl_format.proofs.lines.push_plane.Given as goal

abbrev pub invariant-loop : goal.invariant-loop
invariant-loop l = record {
  place : l.from ≡ l.place + l.counter * l.columns;
  written : l.lines.items ≡ l.fn.lines.items ++ map (row_line l.widths) (rows l.counter l.columns (dropped l.place (listed l.items)));
}
