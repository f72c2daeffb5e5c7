use Rattle.std.proofs.Common.{◌≡◌, ◌++◌, replicate}
use Rattle.apl_format.proofs.number.push_blanks.Given as goal

abbrev pub invariant-loop : goal.invariant-loop
invariant-loop l = l.line.items ≡ l.fn.line.items ++ replicate l.counter 32
