use Rattle.std.proofs.Common.{◌≡◌, ℕ, ◌<◌, pos, get_or, Ok}
use Rattle.std.specs.Prelude.{IsErr}
use Rattle.apl_scalar.specs.Functions.{logical}
use Rattle.apl_scalar.specs.Operands.{IsTruth}
use Rattle.apl_scalar.proofs.logic.LogicalTells.fill_told.Given as goal

-- while all are truth values, each number so far is the value, and where they are not, there is none for one of them
abbrev pub invariant-loop-i : goal.invariant-loop-i
invariant-loop-i g l = record {
  values : IsTruth (g.L.Lane.value l.all) → (k : ℕ) → k < l.i → logical g.C.Connective.meaning (g.X.Line.number l.x k) (g.Y.Line.number l.y k) ≡ Ok (get_or l.out k (pos 0));
  none : (IsTruth (g.L.Lane.value l.all) → ⊥) → (k : ℕ) × (k < l.i) × IsErr (logical g.C.Connective.meaning (g.X.Line.number l.x k) (g.Y.Line.number l.y k));
}
