-- Blocks of numbers in a lane, place by place.
use Rattle.std.proofs.Common.{◌≡◌, ℕ, ℤ, pos, ◌+◌, ◌<◌, List, map, length, get_or, set, refl, sym, subst}
use Rattle.apl_arrays.proofs.Lanes.{numbers_set}
use Rattle.apl_scalar.proofs.Exact.{each_step}
use Rattle.apl_scalar.proofs.OfLanes.{as_many}

-- one more number is written
pub fill_step : {A : Type 0} (value : A → ℤ) (numbers : List A → List ℤ) → ((xs : List A) → numbers xs ≡ map value xs) → (P : ℕ → ℤ → Type 0) (i : ℕ) (out : List A) (v : A)
    → i < length out → ((k : ℕ) → k < i → P k (get_or (numbers out) k (pos 0))) → P i (value v) → (k : ℕ) → k < i + 1 → P k (get_or (numbers (set out i v)) k (pos 0))
fill_step value numbers each P i out v within before now k h =
    subst (λ zs. P k (get_or zs k (pos 0))) (sym (numbers_set value numbers each out i v (value v) refl))
    (each_step P i (numbers out) (value v) (subst (λ n. i < n) (sym (as_many value numbers each out)) within) before now k h)
