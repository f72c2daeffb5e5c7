use Rattle.std.proofs.Common.{◌≡◌, ◌++◌, drop}
use Rattle.apl_page.specs.Spelling.{spelled, texts_of}
use Rattle.apl_page.proofs.spelling.spelled_output.Given as goal

abbrev pub invariant-loop-line : goal.invariant-loop-line
invariant-loop-line l = l.out.items ++ spelled (texts_of (drop l.line-index l.lines)) ≡ spelled (texts_of l.lines)
