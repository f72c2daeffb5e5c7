use Rattle.std.proofs.Common.{◌≡◌, ◌<◌, ℕ, pos, false, get_or}
use Rattle.std.specs.Ordering.{int_eq}
use Rattle.apl_arrays.specs.Numbers.{values}
use Rattle.apl_search.proofs.index.scanned.Given as goal

-- the number is none of those so far
abbrev pub invariant-loop-place : goal.invariant-loop-place
invariant-loop-place l = (k : ℕ) → k < l.place → int_eq l.number (get_or (values l.numbers) k (pos 0)) ≡ false
