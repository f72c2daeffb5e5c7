-- Axes that become one, an axis at a time.
use Rattle.std.proofs.Common.{◌≡◌, ℕ, zero, suc, ◌+◌, ◌-◌, ◌*◌, ◌<◌, ◌≤◌, ◌==◌, Bool, true, false, cond, List, [], ◌∷◌, map, max, min, length, get_or, drop, refl, ap, sym, ◌∙◌, arith, subst, Option, None, Some}
use Rattle.std.specs.Prelude.{unwrap_or}
use Rattle.std.proofs.Math.Nat.{mul-le-mul_left}
use Rattle.std.specs.List.{range_with_len, AllByRecursion}
use Rattle.apl_arrays.specs.declared.axis.Axis.{Axis}
use Rattle.apl_arrays.specs.Index.{bound_of}
use Rattle.apl_arrays.specs.Cells.{Arr, Items}
use Rattle.apl_arrays.specs.Strides.{lengths, step_at, reach_of, IsView}
use Rattle.apl_arrays.specs.Views.{rank_of, joined, least, selected, turned, turned_shape}
use Rattle.apl_arrays.specs.inside.Joins.{ups, downs, skips, sum_of, joined_length, joined_axis, joined_skip, turned_axes, turned_skip}
use Rattle.apl_arrays.proofs.Places.{rest_of}
use Rattle.apl_arrays.proofs.Steps.{reach_low, length-lengths, no_axis, rest_at}
use Rattle.apl_arrays.proofs.Moves.{Leads, shown, shown_by, view_by}
use Rattle.apl_arrays.proofs.Turns.{sum_of-same, sum_of-add, exchange, term, all_fit, least_low, first_joined, place_onto, within_onto, reach_onto, lengths-made, place_made, below_made, reach_made, bound_joined}

-- the rank of the result
pub rank_step : (ms : List ℕ) (k : ℕ) → k < length ms → rank_of (drop k ms) ≡ max (get_or ms k 0 + 1) (rank_of (drop (k + 1) ms))
rank_step ms k h = rw (rest_of ms k h) refl

pub rank_low : (ms : List ℕ) (k : ℕ) → k < length ms → get_or ms k 0 + 1 ≤ rank_of ms
rank_low [] k h = absurd (omega arith)
rank_low (m ∷ ms) zero h = omega arith
rank_low (m ∷ ms) (suc k) h = omega (arith, rank_low ms k (omega arith))

pub rank_within : (n : ℕ) (ms : List ℕ) → AllByRecursion (λ m. m < n) ms → rank_of ms ≤ n
rank_within n [] a = omega arith
rank_within n (m ∷ ms) a = omega (arith, a.0, rank_within n ms a.1)

rank_all : (ms : List ℕ) (n : ℕ) → rank_of ms ≤ n → AllByRecursion (λ m. m < n) ms
rank_all [] n h = tt
rank_all (m ∷ ms) n h = (omega arith, rank_all ms n (omega arith))

-- the least so far, with more lengths
abbrev pub least_with : Option ℕ → List ℕ → Option ℕ
least_with o [] = o
least_with o (n ∷ ns) = least_with (Some (min n (unwrap_or o n))) ns

least_after : (m : ℕ) (ns : List ℕ) → least_with (Some m) ns ≡ Some (least (m ∷ ns))
least_after m [] = refl
least_after m (n ∷ ns) = least_after (min n m) ns ∙ ap (λ x. Some x) (turn ns)
  where
    turn : (ns : List ℕ) → least (min n m ∷ ns) ≡ least (m ∷ n ∷ ns)
    turn [] = omega arith
    turn (k ∷ ns) = omega arith

pub least_all : (ns : List ℕ) → unwrap_or (least_with None ns) 0 ≡ least ns
least_all [] = refl
least_all (n ∷ ns) = ap (λ o. unwrap_or o 0) (least_after (min n n) ns) ∙ ap (λ m. least (m ∷ ns)) (same n)
  where
    same : (n : ℕ) → min n n ≡ n
    same n = omega arith

joined_at : (k : ℕ) (ms : List ℕ) (xs : List Axis) (j : ℕ) → j < length ms → j < length xs →
    joined k (drop j ms) (lengths (drop j xs)) ≡ cond (get_or ms j 0 == k) ((get_or xs j no_axis).length ∷ joined k (drop (j + 1) ms) (lengths (drop (j + 1) xs))) (joined k (drop (j + 1) ms) (lengths (drop (j + 1) xs)))
joined_at k ms xs j h g = rw (rest_of ms j h, rest_at xs j g) refl

when : {A : Type 0} (b : Bool) (x y : A) → b ≡ true → cond b x y ≡ x
when true x y e = refl
when false x y e = absurd (cc)

unless : {A : Type 0} (b : Bool) (x y : A) → b ≡ false → cond b x y ≡ y
unless true x y e = absurd (cc)
unless false x y e = refl

pub least_step : (k : ℕ) (ms : List ℕ) (xs : List Axis) (j : ℕ) (o : Option ℕ) → j < length ms → j < length xs → (get_or ms j 0 == k) ≡ true →
    least_with (Some (min (get_or xs j no_axis).length (unwrap_or o (get_or xs j no_axis).length))) (joined k (drop (j + 1) ms) (lengths (drop (j + 1) xs))) ≡ least_with o (joined k (drop j ms) (lengths (drop j xs)))
least_step k ms xs j o h g e = ap (least_with o) (sym (joined_at k ms xs j h g ∙ when (get_or ms j 0 == k) _ (joined k (drop (j + 1) ms) (lengths (drop (j + 1) xs))) e))

pub least_skip : (k : ℕ) (ms : List ℕ) (xs : List Axis) (j : ℕ) (o : Option ℕ) → j < length ms → j < length xs → (get_or ms j 0 == k) ≡ false →
    least_with o (joined k (drop (j + 1) ms) (lengths (drop (j + 1) xs))) ≡ least_with o (joined k (drop j ms) (lengths (drop j xs)))
least_skip k ms xs j o h g e = ap (least_with o) (sym (joined_at k ms xs j h g ∙ unless (get_or ms j 0 == k) _ (joined k (drop (j + 1) ms) (lengths (drop (j + 1) xs))) e))

-- what is left to add
pub left_here : (k n : ℕ) (ms : List ℕ) (xs : List Axis) (j : ℕ) → j < length ms → j < length xs → (get_or ms j 0 == k) ≡ true →
    (ups k (drop j ms) (drop j xs) ≡ (get_or xs j no_axis).up + ups k (drop (j + 1) ms) (drop (j + 1) xs))
    × (downs k (drop j ms) (drop j xs) ≡ (get_or xs j no_axis).down + downs k (drop (j + 1) ms) (drop (j + 1) xs))
    × (skips k n (drop j ms) (drop j xs) ≡ (get_or xs j no_axis).down * ((get_or xs j no_axis).length - n) + skips k n (drop (j + 1) ms) (drop (j + 1) xs))
left_here k n ms xs j h g e =
    rw (rest_of ms j h, rest_at xs j g) (when (get_or ms j 0 == k) _ _ e, when (get_or ms j 0 == k) _ _ e, when (get_or ms j 0 == k) _ _ e)

pub left_there : (k n : ℕ) (ms : List ℕ) (xs : List Axis) (j : ℕ) → j < length ms → j < length xs → (get_or ms j 0 == k) ≡ false →
    (ups k (drop j ms) (drop j xs) ≡ ups k (drop (j + 1) ms) (drop (j + 1) xs))
    × (downs k (drop j ms) (drop j xs) ≡ downs k (drop (j + 1) ms) (drop (j + 1) xs))
    × (skips k n (drop j ms) (drop j xs) ≡ skips k n (drop (j + 1) ms) (drop (j + 1) xs))
left_there k n ms xs j h g e =
    rw (rest_of ms j h, rest_at xs j g) (unless (get_or ms j 0 == k) _ _ e, unless (get_or ms j 0 == k) _ _ e, unless (get_or ms j 0 == k) _ _ e)

-- no sum of steps is more than the reach
pub parts_low : (k n : ℕ) (ms : List ℕ) (xs : List Axis) (p : ℕ) → p + (ups k ms xs + downs k ms xs + skips k n ms xs) ≤ reach_of p xs
parts_low k n [] xs p = omega (arith, reach_low p xs)
parts_low k n (m ∷ ms) [] p = omega arith
parts_low k n (m ∷ ms) (a ∷ xs) p =
    le_trans _ _ _ (each (m == k) p a.up a.down (a.length - n) a.length (ups k ms xs) (downs k ms xs) (skips k n ms xs) (omega arith)) (parts_low k n ms xs (p + (a.up + a.down) * (a.length + 1)))
  where
    le_trans : (a b c : ℕ) → a ≤ b → b ≤ c → a ≤ c
    le_trans a b c h k = omega arith

    each : (b : Bool) (p u d c l U D S : ℕ) → c ≤ l → p + (cond b (u + U) U + cond b (d + D) D + cond b (d * c + S) S) ≤ (p + (u + d) * (l + 1)) + (U + D + S)
    each true p u d c l U D S h = let g : d * c ≤ d * l = mul-le-mul_left d h in let e : (u + d) * (l + 1) ≡ u * l + d * l + u + d = omega arith in omega arith
    each false p u d c l U D S h = omega arith

-- what is joined is no longer than each axis
pub joined_low : (ms : List ℕ) (xs : List Axis) (k j : ℕ) → j < length ms → j < length xs → (get_or ms j 0 == k) ≡ true → joined_length ms xs k ≤ (get_or xs j no_axis).length
joined_low ms xs k j h g e = at ms xs j h g e (least (joined k ms (lengths xs))) (least_low (joined k ms (lengths xs)))
  where
    at : (ms : List ℕ) (xs : List Axis) (j : ℕ) → j < length ms → j < length xs → (get_or ms j 0 == k) ≡ true → (b : ℕ) → AllByRecursion (λ n. b ≤ n) (joined k ms (lengths xs)) → b ≤ (get_or xs j no_axis).length
    at [] xs j h g e b a = absurd (omega arith)
    at (m ∷ ms) [] j h g e b a = absurd (omega arith)
    at (m ∷ ms) (x ∷ xs) zero h g e b a = (first_joined b 0 (m == k) x.length (joined k ms (lengths xs)) a).0 e
    at (m ∷ ms) (x ∷ xs) (suc j) h g e b a = at ms xs j (omega arith) (omega arith) e b (first_joined b 0 (m == k) x.length (joined k ms (lengths xs)) a).1

-- sums and lists, a number at a time
pub sum_step : (h : ℕ → ℕ) (k n : ℕ) → k < n → sum_of h k (n - k) ≡ h k + sum_of h (k + 1) (n - (k + 1))
sum_step h k n l = ap (sum_of h k) (there k n l)
  where
    there : (k n : ℕ) → k < n → n - k ≡ suc (n - (k + 1))
    there k n l = omega arith

pub sum_end : (h : ℕ → ℕ) (k n : ℕ) → n ≤ k → sum_of h k (n - k) ≡ 0
sum_end h k n l = ap (sum_of h k) (there k n l)
  where
    there : (k n : ℕ) → n ≤ k → n - k ≡ 0
    there k n l = omega arith

zero_add : (k : ℕ) → 0 + k ≡ k
zero_add k = omega arith

assoc : (p s t : ℕ) → (p + s) + t ≡ p + (s + t)
assoc p s t = omega arith

-- the new axes lead to the old ones
pub leads_turned : (ms : List ℕ) (xs : List Axis) (p : ℕ) → length ms ≡ length xs → Leads (λ i. map (λ m. get_or i m 0) ms) p xs (p + turned_skip ms xs) (turned_axes ms xs)
leads_turned ms xs p e i w =
    let n : ℕ = rank_of ms in
    let f : ℕ → ℕ = λ k. get_or i k 0 in
    let all : AllByRecursion (λ m. m < rank_of ms) ms = rank_all ms (rank_of ms) (omega arith) in (
      within_onto ms xs (joined_length ms xs) f n e all (all_fit ms xs) below,
      place_made (joined_axis ms xs) 0 n (p + turned_skip ms xs) i f w (λ j. ap f (sym (zero_add j)))
          ∙ assoc p (turned_skip ms xs) (sum_of (λ k. step_at (joined_axis ms xs k) (f k)) 0 n)
          ∙ ap (λ z. p + z) (sum_of-add (joined_skip ms xs) (λ k. step_at (joined_axis ms xs k) (f k)) 0 n)
          ∙ ap (λ z. p + z) (exchange ms xs (joined_length ms xs) f (λ k. joined_length ms xs k - 1 - f k) n all)
          ∙ sym (place_onto ms xs (joined_length ms xs) f n p e all (all_fit ms xs) below),
    )
  where
    below : (k : ℕ) → k < rank_of ms → get_or i k 0 < joined_length ms xs k
    below k l = let P : ℕ → Type 0 = λ j. get_or i k 0 < joined_length ms xs j in subst P (zero_add k) (below_made (joined_axis ms xs) 0 (rank_of ms) i w k l)

-- and reach no further
pub reach_turned : (ms : List ℕ) (xs : List Axis) (p : ℕ) → reach_of (p + turned_skip ms xs) (turned_axes ms xs) ≤ reach_of p xs
reach_turned ms xs p =
    omega (
      arith,
      reach_made (joined_axis ms xs) 0 (rank_of ms) (p + turned_skip ms xs),
      sum_of-add (joined_skip ms xs) span 0 (rank_of ms),
      sum_of-same (λ k. joined_skip ms xs k + span k) (term ms xs (joined_length ms xs) longer longer) 0 (rank_of ms) (λ k. split (joined_skip ms xs k) (ups k ms xs) (downs k ms xs) (longer k)),
      exchange ms xs (joined_length ms xs) longer longer (rank_of ms) (rank_all ms (rank_of ms) (omega arith)),
      reach_onto ms xs (joined_length ms xs) p (all_fit ms xs),
    )
  where
    longer : ℕ → ℕ
    longer k = joined_length ms xs k + 1

    span : ℕ → ℕ
    span k = ((joined_axis ms xs k).up + (joined_axis ms xs k).down) * ((joined_axis ms xs k).length + 1)

    split : (s u d l : ℕ) → s + (u + d) * l ≡ s + (u * l + d * l)
    split s u d l = omega arith

pub skip_turned : (ms : List ℕ) (xs : List Axis) (p : ℕ) → p + turned_skip ms xs ≤ reach_of p xs
skip_turned ms xs p = omega (arith, reach_low (p + turned_skip ms xs) (turned_axes ms xs), reach_turned ms xs p)

pub lengths_turned : (ms : List ℕ) (xs : List Axis) → lengths (turned_axes ms xs) ≡ turned_shape ms (lengths xs)
lengths_turned ms xs = lengths-made (joined_axis ms xs) (range_with_len 0 (rank_of ms))

pub view_turned : (items : Items) (p q : ℕ) (xs ys zs : List Axis) (ms : List ℕ) → length ms ≡ length (lengths xs) → zs ≡ xs → ys ≡ turned_axes ms zs → q ≡ p + turned_skip ms zs → IsView items p xs → IsView items q ys
view_turned items p q xs ys zs ms e f g h v =
    let k : length ms ≡ length xs = omega (arith, length-lengths xs) in
    let P : List Axis → Type 0 = λ ys. IsView items q ys in
    let Q : ℕ → Type 0 = λ q. IsView items q (turned_axes ms xs) in
    subst P (sym (g ∙ ap (turned_axes ms) f)) (subst Q (sym (h ∙ ap (λ zs. p + turned_skip ms zs) f))
    (view_by items (λ i. map (λ m. get_or i m 0) ms) p (p + turned_skip ms xs) xs (turned_axes ms xs) (leads_turned ms xs p k) (reach_turned ms xs p)
    (omega (arith, ap bound_of (lengths_turned ms xs), bound_joined ms (lengths xs) (rank_of ms) e)) v))

pub shown_turned : (items : Items) (p q : ℕ) (xs ys zs : List Axis) (ms : List ℕ) (a : Arr) → length ms ≡ length (lengths xs) → zs ≡ xs → ys ≡ turned_axes ms zs → q ≡ p + turned_skip ms zs → shown items p xs ≡ a →
    shown items q ys ≡ turned ms a
shown_turned items p q xs ys zs ms a e f g h k =
    ap (λ (ys : List Axis). shown items q ys) (g ∙ ap (turned_axes ms) f)
    ∙ ap (λ (q : ℕ). shown items q (turned_axes ms xs)) (h ∙ ap (λ zs. p + turned_skip ms zs) f)
    ∙ shown_by items (λ i. map (λ m. get_or i m 0) ms) p (p + turned_skip ms xs) xs (turned_axes ms xs) (leads_turned ms xs p (omega (arith, length-lengths xs)))
    ∙ ap (λ (s : List ℕ). selected (shown items p xs) s (λ i. map (λ m. get_or i m 0) ms)) (lengths_turned ms xs)
    ∙ ap (turned ms) k

-- nothing is left at the end
pub joined_none : (k : ℕ) (ms : List ℕ) (xs : List Axis) (j : ℕ) → length ms ≤ j → joined k (drop j ms) (lengths (drop j xs)) ≡ []
joined_none k ms xs j h = ap (λ l. joined k l (lengths (drop j xs))) (drop_all ms j h)
  where
    drop_all : (ms : List ℕ) (j : ℕ) → length ms ≤ j → drop j ms ≡ []
    drop_all [] zero h = refl
    drop_all [] (suc j) h = refl
    drop_all (m ∷ ms) zero h = absurd (omega arith)
    drop_all (m ∷ ms) (suc j) h = drop_all ms j (omega arith)
