use Rattle.std.proofs.Common.{ℕ, ◌<◌, ◌≤◌, pos, get_or}
use Rattle.std.specs.Prelude.{unsigned_abs}
use Rattle.apl_folds.proofs.lanes.most_by_bits.Given as goal

-- no magnitude so far exceeds the bound
abbrev pub invariant-loop-number : goal.invariant-loop-number
invariant-loop-number g l = (k : ℕ) → k < l.number-index → unsigned_abs (get_or (g.L.Lane.numbers l.numbers) k (pos 0)) ≤ l.bound
