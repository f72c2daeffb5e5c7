use Rattle.std.proofs.Common.{◌≡◌, ◌<◌, ◌≤◌, ◌*◌, ◌^◌, take}
use Rattle.apl_folds.specs.inside.Sums.{total, magnitudes}
use Rattle.apl_folds.proofs.sums.sum_small.Given as goal

-- while the bound says so, the numbers so far are small, and their sum is exact
abbrev pub invariant-loop-number : goal.invariant-loop-number
invariant-loop-number l = l.bound < 2 ^ 52 → (l.sum ≡ total (take l.number-index l.numbers)) × (magnitudes (take l.number-index l.numbers) ≤ l.number-index * 2 ^ 51)
