use Rattle.std.proofs.Common.{◌≡◌, ◌++◌, length}
use Rattle.std.specs.List.{flat_map}
use Rattle.apl_arrays.specs.Cells.{Numbers}
use Rattle.apl_arrays.specs.Numbers.{values}
use Rattle.apl_format.specs.Display.{row_line, rows}
use Rattle.apl_format.proofs.formatted.push_rows.Given as goal

abbrev pub invariant-loop-row : goal.invariant-loop-row
invariant-loop-row l = l.characters.items ≡ l.fn.characters.items ++ flat_map (row_line l.widths) (rows l.row (length l.widths) (Numbers (values l.numbers)))
