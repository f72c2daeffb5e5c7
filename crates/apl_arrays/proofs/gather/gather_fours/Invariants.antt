use Rattle.std.proofs.Common.{◌≡◌, ◌-◌, ◌≤◌, ◌++◌, ◌∷◌, map, get_or}
use Rattle.apl_arrays.specs.Index.{indices}
use Rattle.apl_arrays.specs.Strides.{lengths, place_at}
use Rattle.apl_arrays.specs.inside.Rows.{rows_from}
use Rattle.apl_arrays.proofs.gather.gather_fours.Given as goal

abbrev pub invariant-loop-row : goal.invariant-loop-row
invariant-loop-row g l = record {
  within : l.row ≤ l.axis.length;
  so_far : (d : g.row.T.Denot) →
      l.out.items ++ map (λ i. get_or l.raw (place_at l.at (l.axis ∷ l.rest) i) d) (rows_from (lengths l.rest) l.row l.axis.length)
      ≡ l.fn.out.items ++ map (λ i. get_or l.raw (place_at l.at (l.axis ∷ l.rest) i) d) (indices (lengths (l.axis ∷ l.rest)));
}

abbrev pub decreases-loop-row : goal.decreases-loop-row
decreases-loop-row g l = l.axis.length - l.row
