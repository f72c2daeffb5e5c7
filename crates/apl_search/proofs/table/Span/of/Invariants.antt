use Rattle.std.proofs.Common.{take}
use Rattle.std.specs.List.{All}
use Rattle.apl_arrays.specs.Numbers.{values}
use Rattle.apl_search.specs.inside.Tables.{IsWithin}
use Rattle.apl_search.proofs.table.Span.of.Given as goal

-- the numbers so far lie between the ends
abbrev pub invariant-loop-place : goal.invariant-loop-place
invariant-loop-place l = All (IsWithin (record { smallest = l.smallest; largest = l.largest })) (take l.place (values l.numbers))
