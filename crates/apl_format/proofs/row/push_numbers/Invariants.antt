use Rattle.std.proofs.Common.{◌≡◌, ◌++◌, map, take}
use Rattle.apl_arrays.specs.Numbers.{values}
use Rattle.apl_format.specs.Display.{joined, number_text}
use Rattle.apl_format.proofs.row.push_numbers.Given as goal

abbrev pub invariant-loop-place : goal.invariant-loop-place
invariant-loop-place l = l.line.items ≡ l.fn.line.items ++ joined 32 (take l.place (map number_text (values l.numbers)))
