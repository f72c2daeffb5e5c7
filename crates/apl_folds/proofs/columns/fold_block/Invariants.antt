use Rattle.std.proofs.Common.{◌≡◌, ℕ, ◌<◌, ◌+◌, ◌≤ℤ◌, pos, get_or, drop, length, Ok}
use Rattle.apl_folds.specs.Lines.{fold_by, line_of}
use Rattle.apl_folds.proofs.columns.fold_block.Given as goal

-- while no flag is raised, each fold is that of the last numbers of its line
abbrev pub invariant-loop-k : goal.invariant-loop-k
invariant-loop-k g l = pos 0 ≤ℤ l.flags → (j : ℕ) → j < length l.initial.folds → fold_by g.S.Step.meaning (drop l.k (line_of (pos 0) (g.L.Lane.numbers l.numbers) l.axis (l.at + j) l.count)) ≡ Ok (get_or l.folds j (pos 0))
