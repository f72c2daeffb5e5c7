use Rattle.std.proofs.Common.{◌≡◌, ◌++◌, map, drop, get_or, length}
use Rattle.apl_arrays.specs.Index.{indices}
use Rattle.apl_arrays.proofs.Gathers.{rows_from}
use Rattle.apl_reshape.specs.Take.{taken_from}
use Rattle.apl_reshape.proofs.taking.+push_taken.Given as goal

abbrev pub decreases-push_taken : goal.decreases-push_taken
decreases-push_taken g l = length l.counts.now

-- what is taken so far, and the rows that are left
abbrev pub invariant-loop-index : goal.invariant-loop-index
invariant-loop-index g l =
    l.out.items ++ map (taken_from l.shape l.counts l.items l.fill) (rows_from (drop 1 l.lengths) l.index (get_or l.lengths 0 0)) ≡ l.initial.out.items ++ map (taken_from l.shape l.counts l.items l.fill) (indices l.lengths)
