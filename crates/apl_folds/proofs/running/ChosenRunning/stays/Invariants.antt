use Rattle.std.proofs.Common.{◌≡◌, ◌<◌, ◌≤◌, ℕ, pos, get_or, true}
use Rattle.apl_folds.specs.inside.Prefixes.{Stays}
use Rattle.apl_folds.proofs.running.ChosenRunning.stays.Given as goal

-- if none of the numbers so far says otherwise, the fold stays the same with each of them
abbrev pub invariant-loop-at : goal.invariant-loop-at
invariant-loop-at g l = l.all ≡ true → (at : ℕ) → at < l.at → l.fn.from ≤ at → Stays g.C.Scalar.meaning (g.L.Lane.value l.fold) (get_or (g.L.Lane.numbers l.numbers) at (pos 0))
