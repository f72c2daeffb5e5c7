-- Flags of places one after another.
use Rattle.std.proofs.Common.{ℕ, ℤ, pos, ◌+◌, ◌<◌, ◌<ℤ◌, ◌⊎◌, inl, inr, arith}

-- where a flag is raised at one of the places so far or at the next, this holds of one of them
pub raised_at : (P : ℕ → Type 0) (i : ℕ) (x y : ℤ) → (x <ℤ pos 0) ⊎ (y <ℤ pos 0) → (x <ℤ pos 0 → (k : ℕ) × (k < i) × P k) → (y <ℤ pos 0 → P i) → (k : ℕ) × (k < i + 1) × P k
raised_at P i x y (inl h) before here = let w = before h in (w.0, omega (arith, w.1), w.2)
raised_at P i x y (inr h) before here = (i, omega arith, here h)
