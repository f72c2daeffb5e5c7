-- Verdicts of comparisons, written one after another.
use Rattle.std.proofs.Common.{◌≡◌, ℕ, ℤ, pos, ◌+◌, ◌<◌, Bool, List, length, get_or, set, FitsSigned, to_z, of_z, w8, ap, ◌∙◌}
use Rattle.std.proofs.lemmas.Int.{to_z-of_z}
use Rattle.apl_scalar.specs.Functions.{number_of}
use Rattle.apl_scalar.proofs.Exact.{each_step}

-- one more verdict is written
pub verdict_next : (M : ℤ → ℤ → Bool) (x y : ℕ → ℤ) (i : ℕ) (out : List ℤ) (v a b : ℤ) → i < length out → FitsSigned w8 v → v ≡ number_of (M a b) → a ≡ x i → b ≡ y i →
    ((k : ℕ) → k < i → get_or out k (pos 0) ≡ number_of (M (x k) (y k))) → (k : ℕ) → k < i + 1 → get_or (set out i (to_z w8 (of_z w8 v))) k (pos 0) ≡ number_of (M (x k) (y k))
verdict_next M x y i out v a b l f e p q before =
    each_step (λ k z. z ≡ number_of (M (x k) (y k))) i out (to_z w8 (of_z w8 v)) l before
    (to_z-of_z w8 v f ∙ e ∙ ap (λ z. number_of (M z b)) p ∙ ap (λ z. number_of (M (x i) z)) q)
