use Rattle.std.proofs.Common.{◌≡◌, map, pos, take}
use Rattle.std.specs.List.{range_with_len}
use Rattle.apl_search.proofs.counting.count_up.Given as goal

-- the numbers so far
abbrev pub invariant-loop-k : goal.invariant-loop-k
invariant-loop-k l = take l.k l.numbers ≡ map pos (range_with_len l.first l.k)
