-- Lengths with one changed, put in or taken out at an axis.
use Rattle.std.proofs.Common.{suc, zero, ◌≡◌, ℕ, ◌+◌, ◌*◌, ◌<◌, ◌≤◌, max, eqb, cond, Bool, true, false, List, [], ◌∷◌, length, get_or, slice_set, refl, ap, arith}
use Rattle.std.specs.List.{insert, remove}
use Rattle.apl_arrays.specs.Axes.{without, inserted}
use Rattle.apl_arrays.specs.Views.{on_axis}
use Rattle.std.proofs.lemmas.Bool.{eqb-true}
use Rattle.std.proofs.Math.Nat.{mul-le-mul_left, mul-le-mul_right}
use Rattle.apl_arrays.specs.Index.{size_of, bound_of}
use Rattle.apl_reshape.specs.Catenate.{beside}

pub set_on_axis : (s : List ℕ) (k l : ℕ) → k < length s → slice_set s k l ≡ on_axis k (λ n. l) s
set_on_axis [] k l h = absurd (omega arith)
set_on_axis (n ∷ s) zero l h = refl
set_on_axis (n ∷ s) (suc k) l h = ap (λ (t : List ℕ). n ∷ t) (set_on_axis s k l (omega arith))

pub insert_axis : (s : List ℕ) (k l : ℕ) → k ≤ length s → insert s k l ≡ inserted k l s
insert_axis s zero l h = refl
insert_axis [] (suc k) l h = absurd (omega arith)
insert_axis (n ∷ s) (suc k) l h = ap (λ (t : List ℕ). n ∷ t) (insert_axis s k l (omega arith))

pub remove_axis : (s : List ℕ) (k : ℕ) → remove s k ≡ without k s
remove_axis [] zero = refl
remove_axis [] (suc k) = refl
remove_axis (n ∷ s) zero = refl
remove_axis (n ∷ s) (suc k) = ap (λ (t : List ℕ). n ∷ t) (remove_axis s k)

pub length-inserted : (s : List ℕ) (k l : ℕ) → length (inserted k l s) ≡ length s + 1
length-inserted s zero l = omega arith
length-inserted [] (suc k) l = refl
length-inserted (n ∷ s) (suc k) l = omega (arith, length-inserted s k l)

-- the length of an axis with another added
pub sum_on_axis : (s : List ℕ) (k m : ℕ) → on_axis k (λ n. get_or s k 0 + m) s ≡ on_axis k (λ n. n + m) s
sum_on_axis [] k m = refl
sum_on_axis (n ∷ s) zero m = refl
sum_on_axis (n ∷ s) (suc k) m = ap (λ (t : List ℕ). n ∷ t) (sum_on_axis s k m)

length-on_axis : (s : List ℕ) (k : ℕ) (f : ℕ → ℕ) → length (on_axis k f s) ≡ length s
length-on_axis [] k f = refl
length-on_axis (n ∷ s) zero f = refl
length-on_axis (n ∷ s) (suc k) f = omega (arith, length-on_axis s k f)

size-inserted : (s : List ℕ) (k : ℕ) → size_of (inserted k 1 s) ≡ size_of s
size-inserted s zero = omega arith
size-inserted [] (suc k) = refl
size-inserted (n ∷ s) (suc k) = ap (λ m. n * m) (size-inserted s k)

bound-inserted : (s : List ℕ) (k : ℕ) → bound_of (inserted k 1 s) ≡ bound_of s
bound-inserted s zero = omega arith
bound-inserted [] (suc k) = refl
bound-inserted (n ∷ s) (suc k) = ap (λ m. max n 1 * m) (bound-inserted s k)

bound-one : (s : List ℕ) (k : ℕ) → bound_of (on_axis k (λ n. 1) s) ≤ bound_of s
bound-one [] k = omega arith
bound-one (n ∷ s) zero = mul-le-mul_right (bound_of s) (one n)
  where
    one : (n : ℕ) → max 1 1 ≤ max n 1
    one n = omega arith
bound-one (n ∷ s) (suc k) = mul-le-mul_left (max n 1) (bound-one s k)

-- an operand with its lengths beside another
pub bound-beside : (s t : List ℕ) (k m : ℕ) → bound_of s ≤ m → bound_of t ≤ m → bound_of (beside k s t) ≤ m
bound-beside [] [] k m h g = omega (arith, h)
bound-beside [] (n ∷ t) k m h g = omega (arith, bound-one (n ∷ t) k)
bound-beside (n ∷ s) t k m h g = at (eqb (length (n ∷ s) + 1) (length t))
  where
    at : (b : Bool) → bound_of (cond b (inserted k 1 (n ∷ s)) (n ∷ s)) ≤ m
    at true = rw (bound-inserted (n ∷ s) k) h
    at false = h

pub size-beside : (n : ℕ) (s t : List ℕ) (k : ℕ) → size_of (beside k (n ∷ s) t) ≡ size_of (n ∷ s)
size-beside n s t k = at (eqb (length (n ∷ s) + 1) (length t))
  where
    at : (b : Bool) → size_of (cond b (inserted k 1 (n ∷ s)) (n ∷ s)) ≡ size_of (n ∷ s)
    at true = size-inserted (n ∷ s) k
    at false = refl

-- as many axes as the operand of more axes has
pub length-beside : (s t : List ℕ) (k : ℕ) → (length (beside k s t) ≤ max (max (length s) (length t)) 1) × (max (length s) 1 ≤ length (beside k s t))
length-beside [] [] k = (omega arith, omega arith)
length-beside [] (n ∷ t) k = (omega (arith, length-on_axis (n ∷ t) k (λ n. 1)), omega (arith, length-on_axis (n ∷ t) k (λ n. 1)))
length-beside (n ∷ s) t k = at (eqb (length (n ∷ s) + 1) (length t)) refl
  where
    at : (b : Bool) → eqb (length (n ∷ s) + 1) (length t) ≡ b → (length (cond b (inserted k 1 (n ∷ s)) (n ∷ s)) ≤ max (max (length (n ∷ s)) (length t)) 1) × (max (length (n ∷ s)) 1 ≤ length (cond b (inserted k 1 (n ∷ s)) (n ∷ s)))
    at true e = (omega (arith, length-inserted (n ∷ s) k 1, eqb-true (length (n ∷ s) + 1) (length t) e), omega (arith, length-inserted (n ∷ s) k 1))
    at false e = (omega arith, omega arith)

-- so an axis of the operand of more axes is one of both
pub axis_beside : (s t u v : List ℕ) (k : ℕ) → u ≡ beside k s t → v ≡ beside k t s → length u ≡ length v → k < max (max (length s) (length t)) 1 → k < length u
axis_beside s t u v k e f g h = omega (arith, ap length e, ap length f, length-beside s t k, length-beside t s k)

pub few_beside : (s t u : List ℕ) (k : ℕ) → u ≡ beside k s t → length s ≤ 8 → length t ≤ 8 → length u ≤ 8
few_beside s t u k e g h = omega (arith, ap length e, length-beside s t k)

pub small_beside : (s t u : List ℕ) (k : ℕ) → u ≡ beside k s t → bound_of s ≤ 1000000 → bound_of t ≤ 1000000 → bound_of u ≤ 1000000
small_beside s t u k e g h = rw e (bound-beside s t k 1000000 g h)
