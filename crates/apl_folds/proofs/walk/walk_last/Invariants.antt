use Rattle.std.proofs.Common.{◌∷◌, [], ◌≡◌, ℕ, ℤ, List, Result}
use Rattle.apl_faults.specs.declared.fault.Fault.{Fault}
use Rattle.apl_arrays.specs.Index.{indices}
use Rattle.apl_arrays.specs.Results.{all_ok}
use Rattle.apl_arrays.proofs.Gathers.{rows_from}
use Rattle.apl_arrays.proofs.InTurn.{after}
use Rattle.apl_folds.specs.Lines.{start_at, count_at}
use Rattle.apl_folds.proofs.walk.walk_last.Given as goal

-- the lines so far and those to come are all of them
abbrev pub invariant-loop-index : goal.invariant-loop-index
invariant-loop-index g l =
    let at : List ℕ → Result ℤ Fault = λ is. g.L.Leaf.gives l.leaf (start_at l.start.at l.start.depth (l.axis ∷ []) is) (count_at l.start.count l.start.depth is) in
    after l.out.items (all_ok at (rows_from [] l.index l.axis.length)) ≡ after l.fn.out.items (all_ok at (indices (l.axis.length ∷ [])))
