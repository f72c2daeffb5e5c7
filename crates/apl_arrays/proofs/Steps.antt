-- Steps along axes.
use Rattle.std.proofs.Common.{◌≡◌, ℕ, ◌+◌, ◌-◌, ◌*◌, ◌<◌, ◌≤◌, true, false, nat_lt, List, [], ◌∷◌, length, get_or, drop, suc, zero, refl, ap, ◌∙◌, arith, add-one, drop-cons}
use Rattle.std.proofs.Math.Nat.{mul-le-mul_left}
use Rattle.std.proofs.lemmas.Bool.{lt-ltb, le-ltb}
use Rattle.apl_arrays.specs.declared.axis.Axis.{Axis}
use Rattle.apl_arrays.specs.Index.{is_within}
use Rattle.apl_arrays.specs.Strides.{lengths, step_at, place_at, reach_of}
use Rattle.apl_arrays.proofs.Places.{both, within_head, rest_of}

pub length-lengths : (xs : List Axis) → length (lengths xs) ≡ length xs
length-lengths [] = refl
length-lengths (a ∷ xs) = ap suc (length-lengths xs)

pub get_or-lengths : (xs : List Axis) (k : ℕ) (d : Axis) → k < length xs → get_or (lengths xs) k 0 ≡ (get_or xs k d).length
get_or-lengths [] k d h = absurd (omega arith)
get_or-lengths (a ∷ xs) zero d h = refl
get_or-lengths (a ∷ xs) (suc k) d h = get_or-lengths xs k d (omega arith)

pub drop-lengths : (xs : List Axis) (k : ℕ) → drop k (lengths xs) ≡ lengths (drop k xs)
drop-lengths xs zero = refl
drop-lengths [] (suc k) = refl
drop-lengths (a ∷ xs) (suc k) = drop-lengths xs k

pub reach_low : (p : ℕ) (xs : List Axis) → p ≤ reach_of p xs
reach_low p [] = omega arith
reach_low p (a ∷ xs) = omega (arith, reach_low (p + (a.up + a.down) * (a.length + 1)) xs)

pub reach_up : (p q : ℕ) (xs : List Axis) → p ≤ q → reach_of p xs ≤ reach_of q xs
reach_up p q [] h = h
reach_up p q (a ∷ xs) h = reach_up (p + (a.up + a.down) * (a.length + 1)) (q + (a.up + a.down) * (a.length + 1)) xs (omega arith)

pub reach_of-add : (p d : ℕ) (xs : List Axis) → reach_of (p + d) xs ≡ reach_of p xs + d
reach_of-add p d [] = refl
reach_of-add p d (a ∷ xs) = ap (λ q. reach_of q xs) (turn p d ((a.up + a.down) * (a.length + 1))) ∙ reach_of-add (p + (a.up + a.down) * (a.length + 1)) d xs
  where
    turn : (p d s : ℕ) → (p + d) + s ≡ (p + s) + d
    turn p d s = omega arith

pub place_at-add : (p d : ℕ) (xs : List Axis) (i : List ℕ) → place_at (p + d) xs i ≡ place_at p xs i + d
place_at-add p d [] i = refl
place_at-add p d (a ∷ xs) [] = refl
place_at-add p d (a ∷ xs) (i ∷ is) = ap (λ q. place_at q xs is) (turn p d (step_at a i)) ∙ place_at-add (p + step_at a i) d xs is
  where
    turn : (p d s : ℕ) → (p + d) + s ≡ (p + s) + d
    turn p d s = omega arith

pub step_low : (u d n i : ℕ) → i < n → u * i + d * (n - 1 - i) ≤ (u + d) * n
step_low u d n i h = omega (arith, mul-le-mul_left u (l1 n i h), mul-le-mul_left d (l2 n i))
  where
    l1 : (n i : ℕ) → i < n → i ≤ n
    l1 n i h = omega arith

    l2 : (n i : ℕ) → n - 1 - i ≤ n
    l2 n i = omega arith

-- so a step is within the axis's part of the reach
pub step_near : (p : ℕ) (a : Axis) (i : ℕ) → i < a.length → p + step_at a i ≤ p + (a.up + a.down) * (a.length + 1)
step_near p a i h = omega (arith, step_low a.up a.down a.length i h)

pub reach_step : (p : ℕ) (a : Axis) (xs : List Axis) (i : ℕ) → i < a.length → reach_of (p + step_at a i) xs ≤ reach_of p (a ∷ xs)
reach_step p a xs i h = reach_up (p + step_at a i) (p + (a.up + a.down) * (a.length + 1)) xs (step_near p a i h)

pub near_axis : (p : ℕ) (a : Axis) (xs : List Axis) (n : ℕ) → reach_of p (a ∷ xs) < n → p + (a.up + a.down) * a.length < n
near_axis p a xs n h = omega (arith, reach_low (p + (a.up + a.down) * (a.length + 1)) xs, mul-le-mul_left (a.up + a.down) (less a.length))
  where
    less : (n : ℕ) → n ≤ n + 1
    less n = omega arith

pub place_le_reach : (xs : List Axis) (p : ℕ) (r : List ℕ) → is_within (lengths xs) r ≡ true → place_at p xs r ≤ reach_of p xs
place_le_reach [] p r w = omega arith
place_le_reach (a ∷ xs) p [] w = absurd (cc)
place_le_reach (a ∷ xs) p (i ∷ is) w =
    le_trans (place_at (p + step_at a i) xs is) (reach_of (p + step_at a i) xs) (reach_of p (a ∷ xs))
    (place_le_reach xs (p + step_at a i) is (both (nat_lt i a.length) (is_within (lengths xs) is) w).1) (reach_step p a xs i (within_head a.length i (lengths xs) is w))
  where
    le_trans : (a b c : ℕ) → a ≤ b → b ≤ c → a ≤ c
    le_trans a b c h k = omega arith

-- the axis that a read beyond the last one gives
abbrev pub no_axis : Axis
no_axis = record { length = 0; up = 0; down = 0 }

-- the axes from one on
pub rest_at : (xs : List Axis) (k : ℕ) → k < length xs → drop k xs ≡ get_or xs k no_axis ∷ drop (k + 1) xs
rest_at xs k h = rw (add-one, drop-cons xs k no_axis)

pub within_at : (xs : List Axis) (is : List ℕ) (k : ℕ) → k < length xs → k < length is → get_or is k 0 < (get_or xs k no_axis).length →
    is_within (lengths (drop k xs)) (drop k is) ≡ is_within (lengths (drop (k + 1) xs)) (drop (k + 1) is)
within_at xs is k h g l = rw (rest_at xs k h, rest_of is k g) (rw (lt-ltb (get_or is k 0) (get_or xs k no_axis).length l) refl)

pub outside_at : (xs : List Axis) (is : List ℕ) (k : ℕ) → k < length xs → k < length is → (get_or xs k no_axis).length ≤ get_or is k 0 → is_within (lengths (drop k xs)) (drop k is) ≡ false
outside_at xs is k h g l = rw (rest_at xs k h, rest_of is k g) (rw (le-ltb (get_or is k 0) (get_or xs k no_axis).length l) refl)

pub place_at_step : (xs : List Axis) (is : List ℕ) (k p : ℕ) → k < length xs → k < length is →
    place_at p (drop k xs) (drop k is) ≡ place_at (p + step_at (get_or xs k no_axis) (get_or is k 0)) (drop (k + 1) xs) (drop (k + 1) is)
place_at_step xs is k p h g = rw (rest_at xs k h, rest_of is k g) refl

pub reach_at_step : (xs : List Axis) (k p i : ℕ) → k < length xs → i < (get_or xs k no_axis).length → reach_of (p + step_at (get_or xs k no_axis) i) (drop (k + 1) xs) ≤ reach_of p (drop k xs)
reach_at_step xs k p i h l = rw (rest_at xs k h) (reach_step p (get_or xs k no_axis) (drop (k + 1) xs) i l)

pub near_at : (xs : List Axis) (k p n : ℕ) → k < length xs → reach_of p (drop k xs) < n → p + ((get_or xs k no_axis).up + (get_or xs k no_axis).down) * (get_or xs k no_axis).length < n
near_at xs k p n h r = near_axis p (get_or xs k no_axis) (drop (k + 1) xs) n (rw (rest_at xs k h) at r)

pub skip_low : (u d n f m : ℕ) → f + m ≤ n → u * f + d * (n - f - m) ≤ (u + d) * n
skip_low u d n f m h = omega (arith, mul-le-mul_left u (l1 n f m h), mul-le-mul_left d (l2 n f m))
  where
    l1 : (n f m : ℕ) → f + m ≤ n → f ≤ n
    l1 n f m h = omega arith

    l2 : (n f m : ℕ) → n - f - m ≤ n
    l2 n f m = omega arith

-- an axis's part of the reach
pub reach_axis : (xs : List Axis) (k p : ℕ) (d : Axis) → k < length xs → p + ((get_or xs k d).up + (get_or xs k d).down) * ((get_or xs k d).length + 1) ≤ reach_of p xs
reach_axis [] k p d h = absurd (omega arith)
reach_axis (a ∷ xs) zero p d h = reach_low (p + (a.up + a.down) * (a.length + 1)) xs
reach_axis (a ∷ xs) (suc k) p d h = omega (arith, reach_axis xs k (p + (a.up + a.down) * (a.length + 1)) d (omega arith))

pub near_in : (xs : List Axis) (k p n : ℕ) (d : Axis) → k < length xs → reach_of p xs < n → ((get_or xs k d).up + (get_or xs k d).down) * (get_or xs k d).length < n
near_in xs k p n d h r = omega (arith, reach_axis xs k p d h, mul-le-mul_left ((get_or xs k d).up + (get_or xs k d).down) (less (get_or xs k d).length))
  where
    less : (n : ℕ) → n ≤ n + 1
    less n = omega arith
