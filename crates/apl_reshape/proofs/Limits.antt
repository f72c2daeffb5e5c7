-- Lengths within the limits of an array.
use Rattle.std.proofs.Common.{suc, zero, ◌≡◌, ℕ, ◌*◌, ◌<◌, ◌≤◌, max, Bool, true, false, ◌&&◌, nat_le, List, [], ◌∷◌, length, take, get_or, replicate, Ok, refl, ap, sym, ◌∙◌, arith}
use Rattle.std.proofs.lemmas.Bool.{eqb-true, leb-true}
use Rattle.std.proofs.lemmas.List.{length-replicate}
use Rattle.apl_faults.specs.declared.fault.Fault.TheVariants.{Limit}
use Rattle.std.proofs.Math.Nat.{mul-le-mul_left, mul-le-mul_right}
use Rattle.apl_arrays.specs.Index.{size_of, bound_of}
use Rattle.apl_arrays.specs.Cells.{Arr, Items, cells_of}
use Rattle.apl_arrays.specs.Checks.{demand, limited}
use Rattle.apl_arrays.specs.Results.{ok_map}
use Rattle.apl_arrays.specs.Simple.{vector}
use Rattle.apl_reshape.specs.Take.{fits_axes, with_axes}
use Rattle.apl_arrays.proofs.Places.{bound_of-pos, mul_low}

-- no length is more than the bound
pub length_low : (s : List ℕ) (k : ℕ) → k < length s → get_or s k 0 ≤ bound_of s
length_low [] k h = absurd (omega arith)
length_low (n ∷ s) zero h = omega (arith, mul_low (max n 1) (bound_of s) (bound_of-pos s))
length_low (n ∷ s) (suc k) h = omega (arith, length_low s k (omega arith), other (max n 1) (bound_of s) (omega arith))
  where
    other : (a b : ℕ) → 1 ≤ a → b ≤ a * b
    other a b h = let g : 1 * b ≤ a * b = mul-le-mul_right b h in omega arith

-- the first axes are within the bound too
pub bound-take : (s : List ℕ) (k m : ℕ) → bound_of s ≤ m → bound_of (take k s) ≤ m
bound-take s k m h = omega (arith, less s k)
  where
    less : (s : List ℕ) (k : ℕ) → bound_of (take k s) ≤ bound_of s
    less s zero = bound_of-pos s
    less [] (suc k) = omega arith
    less (n ∷ ns) (suc k) = mul-le-mul_left (max n 1) (less ns k)

-- what is within the limits is itself
pub limited_shape : (s t : List ℕ) → limited s ≡ Ok t → (t ≡ s) × (bound_of s ≤ 1000000)
limited_shape s t e = at (nat_le (length s) 8) (nat_le (bound_of s) 1000000) (λ h. leb-true (bound_of s) 1000000 h) e
  where
    at : (a b : Bool) → (b ≡ true → bound_of s ≤ 1000000) → ok_map (λ u. s) (demand (a && b) Limit) ≡ Ok t → (t ≡ s) × (bound_of s ≤ 1000000)
    at true true h e = (cc, h refl)
    at true false h e = absurd (cc)
    at false b h e = absurd (cc)

-- axes of length 1
pub size-ones : (n : ℕ) → size_of (replicate n 1) ≡ 1
size-ones zero = refl
size-ones (suc n) = omega (arith, size-ones n)

pub bound-ones : (n : ℕ) → bound_of (replicate n 1) ≡ 1
bound-ones zero = refl
bound-ones (suc n) = omega (arith, bound-ones n)

-- the lengths with which an operand takes part
pub size-axes : (n : ℕ) (s : List ℕ) → size_of (with_axes n s) ≡ size_of s
size-axes n [] = size-ones n
size-axes n (m ∷ s) = refl

pub bound-axes : (n : ℕ) (s : List ℕ) → bound_of (with_axes n s) ≡ bound_of s
bound-axes n [] = bound-ones n
bound-axes n (m ∷ s) = refl

pub length-axes : (n : ℕ) (s : List ℕ) → fits_axes n s ≡ true → length (with_axes n s) ≡ n
length-axes n [] e = length-replicate n 1
length-axes n (m ∷ s) e = sym (eqb-true n (length (m ∷ s)) e)

-- an operand that takes part with these lengths has an element for each index list, and is within the limits
pub room_axes : (b : Arr) (n : ℕ) (s t u : List ℕ) (items : Items) → s ≡ t → t ≡ with_axes n u → u ≡ b.shape → items ≡ b.items → length (cells_of b.items) ≡ size_of b.shape → size_of s ≡ length (cells_of items)
room_axes b n s t u items e f g h full =
    ap size_of (e ∙ f ∙ ap (with_axes n) g) ∙ size-axes n b.shape ∙ sym full ∙ ap (λ (i : Items). length (cells_of i)) (sym h)

pub small_axes : (b : Arr) (n : ℕ) (s t u : List ℕ) → s ≡ t → t ≡ with_axes n u → u ≡ b.shape → bound_of b.shape ≤ 1000000 → bound_of s ≤ 1000000
small_axes b n s t u e f g small = rw (ap bound_of (e ∙ f ∙ ap (with_axes n) g) ∙ bound-axes n b.shape) small

pub few_is_enough : (a b : ℕ) → a ≡ b → a ≤ b
few_is_enough a b e = omega arith

-- a scalar's elements, in axes of length 1
pub full_ones : (n : ℕ) (s t u : List ℕ) (items old : Items) → s ≡ t → t ≡ replicate n 1 → length u ≡ 0 → length (cells_of old) ≡ size_of u → items ≡ old → length (cells_of items) ≡ size_of s
full_ones n s t [] items old e f h full g = ap (λ (i : Items). length (cells_of i)) g ∙ full ∙ sym (ap size_of (e ∙ f) ∙ size-ones n)
full_ones n s t (m ∷ u) items old e f h full g = absurd (omega arith)

pub small_ones : (n : ℕ) (s t : List ℕ) → s ≡ t → t ≡ replicate n 1 → bound_of s ≤ 1000000
small_ones n s t e f = omega (arith, ap bound_of (e ∙ f), bound-ones n)

-- a vector's ravel is itself
pub vector_stays : (b : Arr) → length b.shape ≡ 1 → length (cells_of b.items) ≡ size_of b.shape → vector b.items ≡ b
vector_stays b e full = at b.shape e full
  where
    at : (s : List ℕ) → length s ≡ 1 → length (cells_of b.items) ≡ size_of s → vector b.items ≡ record { shape = s; items = b.items }
    at [] e full = absurd (omega arith)
    at (n ∷ []) e full = let same : length (cells_of b.items) ≡ n = omega arith in ap (λ (k : ℕ). record { shape = k ∷ []; items = b.items }) same
    at (n ∷ m ∷ s) e full = absurd (omega arith)
