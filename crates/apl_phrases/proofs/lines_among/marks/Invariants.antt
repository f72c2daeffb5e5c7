use Rattle.std.proofs.Common.{◌≡◌, take}
use Rattle.apl_phrases.specs.inside.Marks.{marks_of}
use Rattle.apl_phrases.proofs.lines_among.marks.Given as goal

abbrev pub invariant-loop-number : goal.invariant-loop-number
invariant-loop-number l = l.marks.items ≡ marks_of (take l.number-index l.numbers) 1 l.definition.lines
