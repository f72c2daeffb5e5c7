use Rattle.std.proofs.Common.{◌↔◌, drop}
use Rattle.apl_order.specs.Kept.{Ascend, AreAtMost, AreLines}
use Rattle.apl_loading.proofs.functions.are_lines.Given as goal

abbrev pub invariant-loop-line : goal.invariant-loop-line
invariant-loop-line l = (Ascend l.above (drop l.line-index l.lines) × AreAtMost l.count (drop l.line-index l.lines)) ↔ AreLines l.fn.definition l.lines
