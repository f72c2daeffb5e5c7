use Rattle.std.proofs.Common.{◌≡◌, ◌++◌, map, take}
use Rattle.std.specs.Simd.Lanes.{zip2}
use Rattle.apl_arrays.specs.Numbers.{values}
use Rattle.apl_format.specs.Display.{joined, number_text, padded}
use Rattle.apl_format.proofs.row.push_aligned.Given as goal

abbrev pub invariant-loop-place : goal.invariant-loop-place
invariant-loop-place l = l.line.items ≡ l.fn.line.items ++ joined 32 (take l.place (zip2 padded l.widths (map number_text (values l.numbers))))
