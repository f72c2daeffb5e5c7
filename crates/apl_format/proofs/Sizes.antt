-- Sizes of a shape, and of its planes.
use Rattle.std.proofs.Common.{◌≡◌, ℕ, ◌+◌, ◌*◌, ◌<◌, ◌≤◌, List, [], ◌∷◌, ◌++◌, length, take, drop, max, ap, ◌∙◌, mul-one, arith, length-drop, mul-le-mul_right, mul-le-mul_left}
use Rattle.std.proofs.lemmas.List.{length-take-le}
use Rattle.apl_arrays.specs.Index.{size_of, bound_of}
use Rattle.apl_arrays.proofs.Places.{bound_of-pos, mul_low, size_le_bound}

pub size_append : (s t : List ℕ) → size_of (s ++ t) ≡ size_of s * size_of t
size_append [] t = omega arith
size_append (n ∷ s) t = rw (size_append s t) (omega arith)

pub bound_append : (s t : List ℕ) → bound_of (s ++ t) ≡ bound_of s * bound_of t
bound_append [] t = omega arith
bound_append (n ∷ s) t = rw (bound_append s t) (omega arith)

-- the sizes of planes of h rows of c columns within the limit
pub record Fit (count h c : ℕ) : Type 0 where
  pub few : count * h ≤ 1000000
  pub plane : h * c ≤ 1000000
  pub planes : count ≤ 1000000

pub times : (a b m n : ℕ) → a ≤ m → b ≤ n → a * b ≤ m * n
times a b m n h k = let g : a * b ≤ m * b = mul-le-mul_right b h in let f : m * b ≤ m * n = mul-le-mul_left m k in omega arith

pub planes_fit : (s : List ℕ) (h c : ℕ) → bound_of (s ++ h ∷ c ∷ []) ≤ 1000000 → Fit (size_of s) h c
planes_fit s h c b =
    let e : bound_of s * (max h 1 * (max c 1 * 1)) ≤ 1000000 = rw bound_append at b in
    let two : max h 1 * (max c 1 * 1) ≤ 1000000 = omega (arith, e, times 1 (max h 1 * (max c 1 * 1)) (bound_of s) (max h 1 * (max c 1 * 1)) (bound_of-pos s) (omega arith)) in
    let one : 1 ≤ max c 1 * 1 = omega arith in
    let low : max h 1 * 1 ≤ max h 1 * (max c 1 * 1) = times (max h 1) 1 (max h 1) (max c 1 * 1) (omega arith) one in
    let three : bound_of s * (max h 1 * 1) ≤ bound_of s * (max h 1 * (max c 1 * 1)) = times (bound_of s) (max h 1 * 1) (bound_of s) (max h 1 * (max c 1 * 1)) (omega arith) low in
    let four : bound_of s * 1 ≤ bound_of s * (max h 1 * 1) = times (bound_of s) 1 (bound_of s) (max h 1 * 1) (omega arith) (omega arith) in
    record {
      few = let g = times (size_of s) h (bound_of s) (max h 1 * 1) (size_le_bound s) (omega arith) in omega (arith, g, three, e);
      plane = let g = times h c (max h 1) (max c 1 * 1) (omega arith) (omega arith) in omega (arith, g, two);
      planes = omega (arith, size_le_bound s, four, three, e);
    }

pub outer_fits : (s : List ℕ) (h c : ℕ) → bound_of (s ++ h ∷ c ∷ []) ≤ 1000000 → bound_of s ≤ 1000000
outer_fits s h c b =
    let e : bound_of s * bound_of (h ∷ c ∷ []) ≤ 1000000 = rw bound_append at b in
    omega (arith, e, mul_low (bound_of s) (bound_of (h ∷ c ∷ [])) (bound_of-pos (h ∷ c ∷ [])))

-- the elements of planes of h rows of c columns
pub planes_size : (s : List ℕ) (h c : ℕ) → size_of (s ++ h ∷ c ∷ []) ≡ size_of s * (h * c)
planes_size s h c = size_append s (h ∷ c ∷ []) ∙ ap (λ n. size_of s * (h * n)) (mul-one c)

-- a row is within its rows
pub row_within : (row count columns many : ℕ) → row < count → count * columns ≤ many → row * columns + columns ≤ many
row_within row count columns many h k = let g : (row + 1) * columns ≤ count * columns = mul-le-mul_right columns (omega arith) in omega arith

-- so many items from a place on
pub length_part : {A : Type 0} (xs : List A) (place count : ℕ) → place + count ≤ length xs → length (take count (drop place xs)) ≡ count
length_part xs place count h = length-take-le count (drop place xs) (omega (arith, length-drop place xs))
