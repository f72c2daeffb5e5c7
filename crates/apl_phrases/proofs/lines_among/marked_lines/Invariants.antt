use Rattle.std.proofs.Common.{◌≡◌, ◌+◌, ◌++◌, drop}
use Rattle.apl_phrases.specs.inside.Marks.{marked_lines}
use Rattle.apl_phrases.proofs.lines_among.marked_lines.Given as goal

abbrev pub invariant-loop-index : goal.invariant-loop-index
invariant-loop-index l = l.lines.items ++ marked_lines (l.index + 1) (drop l.index l.marks) ≡ marked_lines 1 l.marks
