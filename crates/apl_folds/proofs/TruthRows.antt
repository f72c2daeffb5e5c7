-- Folds of truth values from the right, a number at a time.
use Rattle.std.proofs.Common.{◌≡◌, ℕ, ℤ, pos, ◌-◌, ◌<◌, Bool, true, false, List, length, drop, get_or, Ok, ap, sym, ◌∙◌, refl}
use Rattle.apl_scalar.specs.Functions.{number_of, logical}
use Rattle.apl_scalar.specs.Operands.{IsTruth}
use Rattle.apl_folds.specs.Lines.{fold_by}
use Rattle.apl_folds.proofs.Rights.{fold_before}

-- a value of truth values is one
is_truth : (f : Bool → Bool → Bool) (x z v : ℤ) → IsTruth x → IsTruth z → logical f x z ≡ Ok v → IsTruth v
is_truth f x z v s t e =
    let same : Ok (number_of (f s.0 t.0)) ≡ logical f x z = sym (ap (λ (w : ℤ). logical f w z) s.1 ∙ ap (logical f (number_of s.0)) t.1 ∙ plain s.0 t.0) in
    (f s.0 t.0, cc)
  where
    plain : (p q : Bool) → logical f (number_of p) (number_of q) ≡ Ok (number_of (f p q))
    plain false false = refl
    plain false true = refl
    plain true false = refl
    plain true true = refl

-- one number more
pub truth_before : (f : Bool → Bool → Bool) (xs : List ℤ) (j : ℕ) (x z v bound wide : ℤ) → (IsTruth bound → IsTruth z × (fold_by (logical f) (drop j xs) ≡ Ok z)) → get_or xs (j - 1) (pos 0) ≡ x →
    (IsTruth x → IsTruth z → logical f x z ≡ Ok v) → (IsTruth wide → IsTruth bound × IsTruth x) → 0 < j → j < length xs → IsTruth wide → IsTruth v × (fold_by (logical f) (drop (j - 1) xs) ≡ Ok v)
truth_before f xs j x z v bound wide before is value both l h w =
    let t = both w in
    let b = before t.0 in
    let e : logical f x z ≡ Ok v = value t.1 b.0 in
    (is_truth f x z v t.1 b.0 e, fold_before (logical f) xs j z l h b.1 ∙ (ap (λ (y : ℤ). logical f y z) is ∙ e))
