use Rattle.std.proofs.Common.{◌≡◌, ◌++◌, ◌∷◌, map, get_or, length}
use Rattle.apl_arrays.specs.Index.{indices}
use Rattle.apl_arrays.specs.Strides.{lengths, place_at}
use Rattle.apl_arrays.specs.inside.Rows.{rows_from}
use Rattle.apl_arrays.proofs.gather.+gather.Given as goal

abbrev pub decreases-gather : goal.decreases-gather
decreases-gather g l = length l.axes.now

abbrev pub invariant-loop-i : goal.invariant-loop-i
invariant-loop-i g l = (d : g.row.T.Denot) →
    l.out.items ++ map (λ i. get_or l.raw (place_at l.at (l.axis ∷ l.rest) i) d) (rows_from (lengths l.rest) l.i l.axis.length)
    ≡ l.fn.out.items ++ map (λ i. get_or l.raw (place_at l.at (l.axis ∷ l.rest) i) d) (indices (lengths (l.axis ∷ l.rest)))
