use Rattle.std.proofs.Common.{◌≡◌, length}
use Rattle.apl_arrays.specs.Cells.{Numbers}
use Rattle.apl_arrays.specs.Numbers.{values}
use Rattle.apl_format.specs.Display.{widths, rows}
use Rattle.apl_format.proofs.columns.number_widths.Given as goal

abbrev pub invariant-loop-row : goal.invariant-loop-row
invariant-loop-row l = record {
  wide : length l.widths.items ≡ l.columns;
  widest : l.widths.items ≡ widths l.columns (rows l.row l.columns (Numbers (values l.numbers)));
}
