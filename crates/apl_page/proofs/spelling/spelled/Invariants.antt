use Rattle.std.proofs.Common.{◌≡◌, ◌++◌, drop}
use Rattle.apl_page.specs.Spelling.{spelled}
use Rattle.apl_page.proofs.spelling.spelled.Given as goal

abbrev pub invariant-loop-line : goal.invariant-loop-line
invariant-loop-line l = l.out.items ++ spelled (drop l.line-index l.lines) ≡ spelled l.lines
