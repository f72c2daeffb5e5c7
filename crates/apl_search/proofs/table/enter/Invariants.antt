use Rattle.std.proofs.Common.{drop}
use Rattle.apl_arrays.specs.Numbers.{values}
use Rattle.apl_search.specs.inside.Tables.{AreFirsts}
use Rattle.apl_search.proofs.table.enter.Given as goal

-- the slots hold the first places among the numbers from here on
abbrev pub invariant-loop-place : goal.invariant-loop-place
invariant-loop-place l = AreFirsts l.span.smallest l.firsts l.place (drop l.place (values l.numbers))
