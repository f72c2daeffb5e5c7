use Rattle.std.proofs.Common.{ℕ, ◌≡◌, ◌<◌, ◌≤◌, get_or, pos, take, bit_or}
use Rattle.std.specs.List.{fold}
use Rattle.std.specs.Prelude.{unsigned_abs}
use Rattle.apl_scalar.proofs.overflow.widest.Given as goal

-- the bound so far is that of the numbers so far, and no less than their magnitudes
abbrev pub invariant-loop-number : goal.invariant-loop-number
invariant-loop-number l = (l.bound ≡ fold (λ b z. bit_or b (unsigned_abs z)) 0 (take l.number-index l.numbers)) × ((k : ℕ) → k < l.number-index → unsigned_abs (get_or l.numbers k (pos 0)) ≤ l.bound)
