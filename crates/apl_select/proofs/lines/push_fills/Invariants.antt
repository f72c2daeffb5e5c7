use Rattle.std.proofs.Common.{◌≡◌, ◌++◌, replicate}
use Rattle.apl_select.proofs.lines.push_fills.Given as goal

abbrev pub invariant-loop : goal.invariant-loop
invariant-loop g l = l.out.items ≡ l.fn.out.items ++ replicate l.counter l.fill
