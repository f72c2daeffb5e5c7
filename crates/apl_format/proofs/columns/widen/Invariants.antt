use Rattle.std.proofs.Common.{◌≡◌, ◌++◌, map, take, drop, length, max}
use Rattle.std.specs.Simd.Lanes.{zip2}
use Rattle.apl_arrays.specs.Numbers.{values}
use Rattle.apl_format.specs.Display.{number_text}
use Rattle.apl_format.proofs.columns.widen.Given as goal

abbrev pub invariant-loop-column : goal.invariant-loop-column
invariant-loop-column l = l.widths ≡ take l.column (zip2 max l.fn.widths (map (λ z. length (number_text z)) (values l.row))) ++ drop l.column l.fn.widths
