-- The place of an index list, by the part of it before an axis, its index on the axis, and the part behind.
use Rattle.std.proofs.Common.{◌≡◌, ℕ, zero, suc, ◌+◌, ◌*◌, ◌<◌, ◌≤◌, true, nat_lt, ◌&&◌, max, List, [], ◌∷◌, length, get_or, take, drop, arith, refl, ap, sym, ◌∙◌}
use Rattle.std.proofs.lemmas.Bool.{eq-eqb}
use Rattle.std.proofs.lemmas.List.{drop_all}
use Rattle.std.proofs.Math.Nat.{mul-le-mul_left, mul-le-mul_right}
use Rattle.apl_arrays.specs.Index.{size_of, bound_of, is_within, position_in}
use Rattle.apl_arrays.specs.Axes.{without}
use Rattle.apl_arrays.specs.Views.{on_axis}
use Rattle.apl_arrays.specs.Checks.{same}
use Rattle.apl_arrays.proofs.Places.{both, within_head, position_in-lt, bound_of-pos, mul_low, rest_of}

pub size_parts : (s : List ℕ) (axis : ℕ) → axis < length s → size_of s ≡ size_of (take axis s) * (get_or s axis 0 * size_of (drop (suc axis) s))
size_parts [] axis h = absurd (omega arith)
size_parts (n ∷ ns) zero h = omega arith
size_parts (n ∷ ns) (suc axis) h = turn n (size_of ns) (size_of (take axis ns)) (get_or ns axis 0 * size_of (drop (suc axis) ns)) (size_parts ns axis (omega arith))
  where
    turn : (n s p w : ℕ) → s ≡ p * w → n * s ≡ (n * p) * w
    turn n s p w e = rw e (omega arith)

pub size_without : (s : List ℕ) (axis : ℕ) → axis < length s → size_of (without axis s) ≡ size_of (take axis s) * size_of (drop (suc axis) s)
size_without [] axis h = absurd (omega arith)
size_without (n ∷ ns) zero h = omega arith
size_without (n ∷ ns) (suc axis) h = turn n (size_of (without axis ns)) (size_of (take axis ns)) (size_of (drop (suc axis) ns)) (size_without ns axis (omega arith))
  where
    turn : (n s p w : ℕ) → s ≡ p * w → n * s ≡ (n * p) * w
    turn n s p w e = rw e (omega arith)

pub position_parts : (s i : List ℕ) (axis : ℕ) → is_within s i ≡ true → axis < length s →
    position_in s i ≡ (position_in (take axis s) (take axis i) * get_or s axis 0 + get_or i axis 0) * size_of (drop (suc axis) s) + position_in (drop (suc axis) s) (drop (suc axis) i)
position_parts [] i axis w h = absurd (omega arith)
position_parts (n ∷ ns) [] axis w h = absurd (cc)
position_parts (n ∷ ns) (x ∷ xs) zero w h = omega arith
position_parts (n ∷ ns) (x ∷ xs) (suc axis) w h =
    turn x (size_of ns) (size_of (take axis ns)) (get_or ns axis 0) (size_of (drop (suc axis) ns)) (position_in ns xs) (position_in (take axis ns) (take axis xs)) (get_or xs axis 0) (position_in (drop (suc axis) ns) (drop (suc axis) xs))
    (size_parts ns axis (omega arith)) (position_parts ns xs axis (both (nat_lt x n) (is_within ns xs) w).1 (omega arith))
  where
    turn : (x s p n w q r k j : ℕ) → s ≡ p * (n * w) → q ≡ (r * n + k) * w + j → x * s + q ≡ ((x * p + r) * n + k) * w + j
    turn x s p n w q r k j e f = rw (e, f) (omega arith)

-- another index on the axis
pub position_on : (s i : List ℕ) (axis : ℕ) (f : ℕ → ℕ) → is_within s i ≡ true → axis < length s →
    position_in s (on_axis axis f i) + get_or i axis 0 * size_of (drop (suc axis) s) ≡ position_in s i + f (get_or i axis 0) * size_of (drop (suc axis) s)
position_on [] i axis f w h = absurd (omega arith)
position_on (n ∷ ns) [] axis f w h = absurd (cc)
position_on (n ∷ ns) (x ∷ xs) zero f w h = omega arith
position_on (n ∷ ns) (x ∷ xs) (suc axis) f w h = omega (arith, position_on ns xs axis f (both (nat_lt x n) (is_within ns xs) w).1 (omega arith))

-- without the axis
pub position_without : (s i : List ℕ) (axis : ℕ) → is_within s i ≡ true → axis < length s →
    position_in (without axis s) (without axis i) ≡ position_in (take axis s) (take axis i) * size_of (drop (suc axis) s) + position_in (drop (suc axis) s) (drop (suc axis) i)
position_without [] i axis w h = absurd (omega arith)
position_without (n ∷ ns) [] axis w h = absurd (cc)
position_without (n ∷ ns) (x ∷ xs) zero w h = omega arith
position_without (n ∷ ns) (x ∷ xs) (suc axis) w h =
    turn x (size_of (without axis ns)) (size_of (take axis ns)) (size_of (drop (suc axis) ns)) (position_in (without axis ns) (without axis xs)) (position_in (take axis ns) (take axis xs)) (position_in (drop (suc axis) ns) (drop (suc axis) xs))
    (size_without ns axis (omega arith)) (position_without ns xs axis (both (nat_lt x n) (is_within ns xs) w).1 (omega arith))
  where
    turn : (x s p w q r j : ℕ) → s ≡ p * w → q ≡ r * w + j → x * s + q ≡ (x * p + r) * w + j
    turn x s p w q r j e f = rw (e, f) (omega arith)

pub within_at_axis : (s i : List ℕ) (axis : ℕ) → is_within s i ≡ true → axis < length s → get_or i axis 0 < get_or s axis 0
within_at_axis [] i axis w h = absurd (omega arith)
within_at_axis (n ∷ ns) [] axis w h = absurd (cc)
within_at_axis (n ∷ ns) (x ∷ xs) zero w h = within_head n x ns xs w
within_at_axis (n ∷ ns) (x ∷ xs) (suc axis) w h = within_at_axis ns xs axis (both (nat_lt x n) (is_within ns xs) w).1 (omega arith)

pub within_behind : (s i : List ℕ) (k : ℕ) → is_within s i ≡ true → is_within (drop k s) (drop k i) ≡ true
within_behind s i zero w = w
within_behind [] [] (suc k) w = refl
within_behind [] (x ∷ xs) (suc k) w = absurd (cc)
within_behind (n ∷ ns) [] (suc k) w = absurd (cc)
within_behind (n ∷ ns) (x ∷ xs) (suc k) w = within_behind ns xs k (both (nat_lt x n) (is_within ns xs) w).1

pub behind_below : (s i : List ℕ) (k : ℕ) → is_within s i ≡ true → position_in (drop k s) (drop k i) < size_of (drop k s)
behind_below s i k w = position_in-lt (drop k s) (drop k i) (within_behind s i k w)

pub without_below : (s i : List ℕ) (axis : ℕ) → is_within s i ≡ true → axis < length s → position_in (without axis s) (without axis i) < size_of (without axis s)
without_below [] i axis w h = absurd (omega arith)
without_below (n ∷ ns) [] axis w h = absurd (cc)
without_below (n ∷ ns) (x ∷ xs) zero w h = position_in-lt ns xs (both (nat_lt x n) (is_within ns xs) w).1
without_below (n ∷ ns) (x ∷ xs) (suc axis) w h =
    below x n (size_of (without axis ns)) (position_in (without axis ns) (without axis xs)) (within_head n x ns xs w) (without_below ns xs axis (both (nat_lt x n) (is_within ns xs) w).1 (omega arith))
  where
    below : (i n s p : ℕ) → i < n → p < s → i * s + p < n * s
    below i n s p h k = grind arith

pub bound-take : (s : List ℕ) (k : ℕ) → bound_of (take k s) ≤ bound_of s
bound-take [] zero = omega arith
bound-take [] (suc k) = omega arith
bound-take (n ∷ ns) zero = bound_of-pos (n ∷ ns)
bound-take (n ∷ ns) (suc k) = mul-le-mul_left (max n 1) (bound-take ns k)

pub length-without : (s : List ℕ) (axis : ℕ) → axis < length s → length (without axis s) + 1 ≡ length s
length-without [] axis h = absurd (omega arith)
length-without (n ∷ ns) zero h = omega arith
length-without (n ∷ ns) (suc axis) h = omega (arith, length-without ns axis (omega arith))

-- the lengths before the axis and behind it
pub without_before : (s : List ℕ) (axis k : ℕ) → k < axis → get_or (without axis s) k 0 ≡ get_or s k 0
without_before [] axis k h = refl
without_before (n ∷ ns) zero k h = absurd (omega arith)
without_before (n ∷ ns) (suc axis) zero h = refl
without_before (n ∷ ns) (suc axis) (suc k) h = without_before ns axis k (omega arith)

pub without_behind : (s : List ℕ) (axis k : ℕ) → axis ≤ k → get_or (without axis s) k 0 ≡ get_or s (suc k) 0
without_behind [] axis k h = refl
without_behind (n ∷ ns) zero k h = refl
without_behind (n ∷ ns) (suc axis) zero h = absurd (omega arith)
without_behind (n ∷ ns) (suc axis) (suc k) h = without_behind ns axis k (omega arith)

-- an axis of an array that has elements
pub some_length : (s : List ℕ) (axis : ℕ) → axis < length s → 0 < size_of s → 0 < get_or s axis 0
some_length s axis h l = positive (size_of (take axis s)) (get_or s axis 0) (size_of (drop (suc axis) s)) (size_of s) (size_parts s axis h) l
  where
    positive : (p n w t : ℕ) → t ≡ p * (n * w) → 0 < t → 0 < n
    positive p zero w t e l = absurd (omega arith)
    positive p (suc n) w t e l = omega arith

pub length_small : (s : List ℕ) (axis : ℕ) → get_or s axis 0 ≤ bound_of s
length_small [] axis = omega arith
length_small (n ∷ ns) zero = omega (arith, mul_low (max n 1) (bound_of ns) (bound_of-pos ns))
length_small (n ∷ ns) (suc axis) = omega (arith, length_small ns axis, one (max n 1) (bound_of ns) (omega arith))
  where
    one : (m b : ℕ) → 1 ≤ m → b ≤ m * b
    one m b h = let g : 1 * b ≤ m * b = mul-le-mul_right b h in omega arith

-- whether shapes are the same, a length at a time
pub same_step : (s t : List ℕ) (k : ℕ) → k < length s → k < length t → get_or s k 0 ≡ get_or t k 0 → same (drop (k + 1) s) (drop (k + 1) t) ≡ same (drop k s) (drop k t)
same_step s t k h g e =
    sym (rw (rest_of s k h, rest_of t k g) (ap (λ b. b && same (drop (k + 1) s) (drop (k + 1) t)) (eq-eqb (get_or s k 0) (get_or t k 0) e)))

pub same_end : (s t : List ℕ) (k : ℕ) → length s ≤ k → length t ≤ k → same (drop k s) (drop k t) ≡ true
same_end s t k h g = rw (drop_all k s h, drop_all k t g) refl

-- the size by the parts, and that of the other axes
pub whole_parts : (s : List ℕ) (axis p n w t : ℕ) → axis < length s → t ≡ size_of s → p ≡ size_of (take axis s) → n ≡ get_or s axis 0 → w ≡ size_of (drop (axis + 1) s) → t ≡ p * (n * w)
whole_parts s axis p n w t h e f g k = e ∙ size_parts s axis h ∙ joined p (size_of (take axis s)) n (get_or s axis 0) w (size_of (drop (suc axis) s)) f g (k ∙ ap (λ m. size_of (drop m s)) (next axis))
  where
    joined : (p q n m w v : ℕ) → p ≡ q → n ≡ m → w ≡ v → q * (m * v) ≡ p * (n * w)
    joined p q n m w v e f g = rw (e, f, g) refl

    next : (k : ℕ) → k + 1 ≡ suc k
    next k = omega arith

pub other_parts : (s : List ℕ) (axis p w : ℕ) → axis < length s → p ≡ size_of (take axis s) → w ≡ size_of (drop (axis + 1) s) → size_of (without axis s) ≡ p * w
other_parts s axis p w h f k = size_without s axis h ∙ joined p (size_of (take axis s)) w (size_of (drop (suc axis) s)) f (k ∙ ap (λ m. size_of (drop m s)) (next axis))
  where
    joined : (p q w v : ℕ) → p ≡ q → w ≡ v → q * v ≡ p * w
    joined p q w v e g = rw (e, g) refl

    next : (k : ℕ) → k + 1 ≡ suc k
    next k = omega arith
