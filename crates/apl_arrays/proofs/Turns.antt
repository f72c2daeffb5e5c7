-- Sums over the axes that others become.
use Rattle.std.proofs.Common.{◌≡◌, ◌≢◌, ℕ, zero, suc, ◌+◌, ◌-◌, ◌*◌, ◌<◌, ◌≤◌, ◌==◌, ◌⊎◌, inl, inr, eqb, Bool, true, false, cond, nat_lt, List, [], ◌∷◌, map, max, min, length, get_or, refl, ap, sym, ◌∙◌, arith}
use Rattle.std.proofs.lemmas.Bool.{eq-eqb, ne_eqb}
use Rattle.std.proofs.lemmas.Bool.Decides.{eqb_tells}
use Rattle.std.proofs.Math.Nat.{mul-le-mul_left, mul-le-mul_right}
use Rattle.std.specs.List.{range_with_len, AllByRecursion}
use Rattle.apl_arrays.specs.declared.axis.Axis.{Axis}
use Rattle.apl_arrays.specs.Index.{bound_of, is_within}
use Rattle.apl_arrays.specs.Strides.{lengths, step_at, place_at, reach_of}
use Rattle.apl_arrays.specs.Views.{joined, least}
use Rattle.apl_arrays.specs.inside.Joins.{ups, downs, skips, sum_of}
use Rattle.apl_arrays.proofs.Places.{both, within_head}
use Rattle.apl_arrays.proofs.Order.{within_cons}
use Rattle.apl_arrays.proofs.Steps.{reach_low}

-- sums of functions that agree from a number on
above : (h g : ℕ → ℕ) (a n : ℕ) → ((k : ℕ) → a ≤ k → h k ≡ g k) → sum_of h a n ≡ sum_of g a n
above h g a zero e = refl
above h g a (suc n) e = ap (λ x. x + sum_of h (a + 1) n) (e a (omega arith)) ∙ ap (λ x. g a + x) (above h g (a + 1) n (λ k l. e k (omega arith)))

pub sum_of-same : (h g : ℕ → ℕ) (a n : ℕ) → ((k : ℕ) → h k ≡ g k) → sum_of h a n ≡ sum_of g a n
sum_of-same h g a n e = above h g a n (λ k l. e k)

pub sum_of-add : (h g : ℕ → ℕ) (a n : ℕ) → sum_of h a n + sum_of g a n ≡ sum_of (λ k. h k + g k) a n
sum_of-add h g a zero = refl
sum_of-add h g a (suc n) = omega (arith, sum_of-add h g (a + 1) n)

sum_of-none : (h : ℕ → ℕ) (a n : ℕ) → ((k : ℕ) → h k ≡ 0) → sum_of h a n ≡ 0
sum_of-none h a zero e = refl
sum_of-none h a (suc n) e = omega (arith, e a, sum_of-none h (a + 1) n e)

-- one number more in one place
one_more : (h g : ℕ → ℕ) (c m a n : ℕ) → a ≤ m → m < a + n → h m ≡ c + g m → ((k : ℕ) → k ≢ m → h k ≡ g k) → sum_of h a n ≡ c + sum_of g a n
one_more h g c m a zero l r e f = absurd (omega arith)
one_more h g c m a (suc n) l r e f = at (eqb_tells a m) (λ u. one_more h g c m (a + 1) n u (omega arith) e f)
  where
    at : ((eqb a m ≡ true) × (a ≡ m)) ⊎ ((eqb a m ≡ false) × (a ≢ m)) → (a + 1 ≤ m → sum_of h (a + 1) n ≡ c + sum_of g (a + 1) n) → h a + sum_of h (a + 1) n ≡ c + (g a + sum_of g (a + 1) n)
    at (inl d) more =
        let s : sum_of h (a + 1) n ≡ sum_of g (a + 1) n = above h g (a + 1) n (λ k i. f k (λ z. omega (arith, d.1))) in
        let t : h a ≡ c + g a = ap h d.1 ∙ e ∙ ap (λ x. c + g x) (sym d.1) in
        omega arith
    at (inr d) more =
        let t : h a ≡ g a = f a d.1 in
        let u : a + 1 ≤ m = least_above a m l d.1 in
        let s : sum_of h (a + 1) n ≡ c + sum_of g (a + 1) n = more u in
        omega arith
      where
        least_above : (a m : ℕ) → a ≤ m → a ≢ m → a + 1 ≤ m
        least_above a m l d = omega arith

-- the parts of what becomes axis k, by a weight for each step up and down
abbrev pub term : List ℕ → List Axis → (ℕ → ℕ) → (ℕ → ℕ) → (ℕ → ℕ) → ℕ → ℕ
term ms xs L x y k = skips k (L k) ms xs + (ups k ms xs * x k + downs k ms xs * y k)

-- the same for each axis that becomes another
abbrev pub onto : List ℕ → List Axis → (ℕ → ℕ) → (ℕ → ℕ) → (ℕ → ℕ) → ℕ
onto [] xs L x y = 0
onto (m ∷ ms) [] L x y = 0
onto (m ∷ ms) (a ∷ xs) L x y = (a.down * (a.length - L m) + (a.up * x m + a.down * y m)) + onto ms xs L x y

term_here : (b : Bool) (s S u U d D x y : ℕ) → b ≡ true → cond b (s + S) S + (cond b (u + U) U * x + cond b (d + D) D * y) ≡ (s + (u * x + d * y)) + (S + (U * x + D * y))
term_here true s S u U d D x y e = omega arith
term_here false s S u U d D x y e = absurd (cc)

term_there : (b : Bool) (s S u U d D x y : ℕ) → b ≡ false → cond b (s + S) S + (cond b (u + U) U * x + cond b (d + D) D * y) ≡ S + (U * x + D * y)
term_there true s S u U d D x y e = absurd (cc)
term_there false s S u U d D x y e = refl

no_term : (x y : ℕ) → 0 + (0 * x + 0 * y) ≡ 0
no_term x y = omega arith

-- a sum over the new axes is one over the old ones
pub exchange : (ms : List ℕ) (xs : List Axis) (L x y : ℕ → ℕ) (n : ℕ) → AllByRecursion (λ m. m < n) ms → sum_of (term ms xs L x y) 0 n ≡ onto ms xs L x y
exchange [] xs L x y n h = sum_of-none (term [] xs L x y) 0 n (λ k. no_term (x k) (y k))
exchange (m ∷ ms) [] L x y n h = sum_of-none (term (m ∷ ms) [] L x y) 0 n (λ k. no_term (x k) (y k))
exchange (m ∷ ms) (a ∷ xs) L x y n h =
    one_more (term (m ∷ ms) (a ∷ xs) L x y) (term ms xs L x y) (a.down * (a.length - L m) + (a.up * x m + a.down * y m)) m 0 n (omega arith) (omega (arith, h.0))
    (term_here (m == m) (a.down * (a.length - L m)) (skips m (L m) ms xs) a.up (ups m ms xs) a.down (downs m ms xs) (x m) (y m) (eq-eqb m m refl))
    (λ k d. term_there (m == k) (a.down * (a.length - L k)) (skips k (L k) ms xs) a.up (ups k ms xs) a.down (downs k ms xs) (x k) (y k) (ne_eqb m k (λ e. d (sym e))))
    ∙ ap (λ z. (a.down * (a.length - L m) + (a.up * x m + a.down * y m)) + z) (exchange ms xs L x y n h.1)

-- each axis is at least as long as what it becomes
abbrev pub Fit : (ℕ → ℕ) → List ℕ → List Axis → Type 0
Fit L [] xs = Unit {0}
Fit L (m ∷ ms) [] = Unit {0}
Fit L (m ∷ ms) (a ∷ xs) = (L m ≤ a.length) × Fit L ms xs

lower : (b c : ℕ) → b ≤ c → (ns : List ℕ) → AllByRecursion (λ n. c ≤ n) ns → AllByRecursion (λ n. b ≤ n) ns
lower b c h [] a = tt
lower b c h (n ∷ ns) a = (omega (arith, a.0), lower b c h ns a.1)

-- the least of some lengths is no more than each of them
pub least_low : (ns : List ℕ) → AllByRecursion (λ n. least ns ≤ n) ns
least_low [] = tt
least_low (n ∷ []) = (omega arith, tt)
least_low (n ∷ m ∷ ns) = (omega arith, lower (min n (least (m ∷ ns))) (least (m ∷ ns)) (omega arith) (m ∷ ns) (least_low (m ∷ ns)))

pub first_joined : (b c : ℕ) (t : Bool) (n : ℕ) (ns : List ℕ) → AllByRecursion (λ n. b ≤ n) (cond t (n ∷ ns) ns) → (t ≡ true → b ≤ n) × AllByRecursion (λ n. b ≤ n) ns
first_joined b c true n ns a = ((λ e. a.0), a.1)
first_joined b c false n ns a = ((λ e. absurd (cc)), a)

fit_from : (L : ℕ → ℕ) (ms : List ℕ) (xs : List Axis) → ((k : ℕ) → AllByRecursion (λ n. L k ≤ n) (joined k ms (lengths xs))) → Fit L ms xs
fit_from L [] xs h = tt
fit_from L (m ∷ ms) [] h = tt
fit_from L (m ∷ ms) (a ∷ xs) h = (
  (first_joined (L m) 0 (m == m) a.length (joined m ms (lengths xs)) (h m)).0 (eq-eqb m m refl),
  fit_from L ms xs (λ k. (first_joined (L k) 0 (m == k) a.length (joined k ms (lengths xs)) (h k)).1),
)

pub all_fit : (ms : List ℕ) (xs : List Axis) → Fit (λ k. least (joined k ms (lengths xs))) ms xs
all_fit ms xs = fit_from (λ k. least (joined k ms (lengths xs))) ms xs (λ k. least_low (joined k ms (lengths xs)))

-- the place of the index list that the new one leads to
pub place_onto : (ms : List ℕ) (xs : List Axis) (L f : ℕ → ℕ) (n p : ℕ) → length ms ≡ length xs → AllByRecursion (λ m. m < n) ms → Fit L ms xs → ((k : ℕ) → k < n → f k < L k) →
    place_at p xs (map f ms) ≡ p + onto ms xs L f (λ k. L k - 1 - f k)
place_onto [] [] L f n p e h t w = omega arith
place_onto [] (a ∷ xs) L f n p e h t w = absurd (omega arith)
place_onto (m ∷ ms) [] L f n p e h t w = absurd (omega arith)
place_onto (m ∷ ms) (a ∷ xs) L f n p e h t w =
    place_onto ms xs L f n (p + step_at a (f m)) (omega arith) h.1 t.1 w
    ∙ turn p a.up a.down a.length (L m) (f m) (onto ms xs L f (λ k. L k - 1 - f k)) (w m h.0) t.0
  where
    turn : (p u d n l i o : ℕ) → i < l → l ≤ n → (p + (u * i + d * (n - 1 - i))) + o ≡ p + ((d * (n - l) + (u * i + d * (l - 1 - i))) + o)
    turn p u d n l i o h k = ring p u d i o (n - 1 - i) (n - l) (l - 1 - i) (omega arith)
      where
        ring : (p u d i o a b c : ℕ) → a ≡ b + c → (p + (u * i + d * a)) + o ≡ p + ((d * b + (u * i + d * c)) + o)
        ring p u d i o a b c e = rw e (omega arith)

pub within_onto : (ms : List ℕ) (xs : List Axis) (L f : ℕ → ℕ) (n : ℕ) → length ms ≡ length xs → AllByRecursion (λ m. m < n) ms → Fit L ms xs → ((k : ℕ) → k < n → f k < L k) →
    is_within (lengths xs) (map f ms) ≡ true
within_onto [] [] L f n e h t w = refl
within_onto [] (a ∷ xs) L f n e h t w = absurd (omega arith)
within_onto (m ∷ ms) [] L f n e h t w = absurd (omega arith)
within_onto (m ∷ ms) (a ∷ xs) L f n e h t w = within_cons a.length (f m) (lengths xs) (map f ms) (omega (arith, w m h.0, t.0)) (within_onto ms xs L f n (omega arith) h.1 t.1 w)

-- the reach is no more
pub reach_onto : (ms : List ℕ) (xs : List Axis) (L : ℕ → ℕ) (p : ℕ) → Fit L ms xs → p + onto ms xs L (λ k. L k + 1) (λ k. L k + 1) ≤ reach_of p xs
reach_onto [] xs L p t = omega (arith, reach_low p xs)
reach_onto (m ∷ ms) [] L p t = omega arith
reach_onto (m ∷ ms) (a ∷ xs) L p t =
    omega (arith, reach_onto ms xs L (p + (a.up + a.down) * (a.length + 1)) t.1, less a.up a.down a.length (L m) t.0)
  where
    less : (u d n l : ℕ) → l ≤ n → d * (n - l) + (u * (l + 1) + d * (l + 1)) ≤ (u + d) * (n + 1)
    less u d n l h = ring u d n l (n - l) (omega arith)
      where
        ring : (u d n l c : ℕ) → n ≡ l + c → d * c + (u * (l + 1) + d * (l + 1)) ≤ (u + d) * (n + 1)
        ring u d n l c e = rw e (let g : (u + d) * (l + c + 1) ≡ (d * c + (u * (l + 1) + d * (l + 1))) + u * c = omega arith in omega arith)

-- axes made one after another
pub lengths-made : (J : ℕ → Axis) (ks : List ℕ) → lengths (map J ks) ≡ map (λ k. (J k).length) ks
lengths-made J [] = refl
lengths-made J (k ∷ ks) = ap (λ l. (J k).length ∷ l) (lengths-made J ks)

pub place_made : (J : ℕ → Axis) (a n p : ℕ) (i : List ℕ) (f : ℕ → ℕ) → is_within (lengths (map J (range_with_len a n))) i ≡ true → ((j : ℕ) → get_or i j 0 ≡ f (a + j)) →
    place_at p (map J (range_with_len a n)) i ≡ p + sum_of (λ k. step_at (J k) (f k)) a n
place_made J a zero p [] f w e = omega arith
place_made J a zero p (x ∷ is) f w e = absurd (cc)
place_made J a (suc n) p [] f w e = absurd (cc)
place_made J a (suc n) p (x ∷ is) f w e =
    place_made J (a + 1) n (p + step_at (J a) x) is f (both (nat_lt x (J a).length) (is_within (lengths (map J (range_with_len (a + 1) n))) is) w).1 (λ j. e (suc j) ∙ ap f (next a j))
    ∙ ap (λ z. (p + step_at (J a) z) + sum_of (λ k. step_at (J k) (f k)) (a + 1) n) (e 0 ∙ ap f (none a)) ∙ turn p (step_at (J a) (f a)) (sum_of (λ k. step_at (J k) (f k)) (a + 1) n)
  where
    next : (a j : ℕ) → a + suc j ≡ (a + 1) + j
    next a j = omega arith

    none : (a : ℕ) → a + 0 ≡ a
    none a = omega arith

    turn : (p s t : ℕ) → (p + s) + t ≡ p + (s + t)
    turn p s t = omega arith

pub below_made : (J : ℕ → Axis) (a n : ℕ) (i : List ℕ) → is_within (lengths (map J (range_with_len a n))) i ≡ true → (j : ℕ) → j < n → get_or i j 0 < (J (a + j)).length
below_made J a zero i w j l = absurd (omega arith)
below_made J a (suc n) [] w j l = absurd (cc)
below_made J a (suc n) (x ∷ is) w zero l = rw (none a) (within_head (J a).length x (lengths (map J (range_with_len (a + 1) n))) is w)
  where
    none : (a : ℕ) → a + 0 ≡ a
    none a = omega arith
below_made J a (suc n) (x ∷ is) w (suc j) l =
    rw (next a j) (below_made J (a + 1) n is (both (nat_lt x (J a).length) (is_within (lengths (map J (range_with_len (a + 1) n))) is) w).1 j (omega arith))
  where
    next : (a j : ℕ) → a + suc j ≡ (a + 1) + j
    next a j = omega arith

pub reach_made : (J : ℕ → Axis) (a n p : ℕ) → reach_of p (map J (range_with_len a n)) ≡ p + sum_of (λ k. ((J k).up + (J k).down) * ((J k).length + 1)) a n
reach_made J a zero p = omega arith
reach_made J a (suc n) p = reach_made J (a + 1) n (p + ((J a).up + (J a).down) * ((J a).length + 1)) ∙ turn p (((J a).up + (J a).down) * ((J a).length + 1)) (sum_of (λ k. ((J k).up + (J k).down) * ((J k).length + 1)) (a + 1) n)
  where
    turn : (p s t : ℕ) → (p + s) + t ≡ p + (s + t)
    turn p s t = omega arith

-- bounds
bound_above : (h g : ℕ → ℕ) (a n : ℕ) → ((k : ℕ) → a ≤ k → h k ≡ g k) → bound_of (map h (range_with_len a n)) ≡ bound_of (map g (range_with_len a n))
bound_above h g a zero e = refl
bound_above h g a (suc n) e = ap (λ x. max x 1 * bound_of (map h (range_with_len (a + 1) n))) (e a (omega arith)) ∙ ap (λ x. max (g a) 1 * x) (bound_above h g (a + 1) n (λ k l. e k (omega arith)))

bound_more : (h g : ℕ → ℕ) (c m a n : ℕ) → 1 ≤ c → max (h m) 1 ≤ c * max (g m) 1 → ((k : ℕ) → k ≢ m → h k ≡ g k) → bound_of (map h (range_with_len a n)) ≤ c * bound_of (map g (range_with_len a n))
bound_more h g c m a zero l e f = omega arith
bound_more h g c m a (suc n) l e f = at (eqb_tells a m) (bound_more h g c m (a + 1) n l e f)
  where
    at : ((eqb a m ≡ true) × (a ≡ m)) ⊎ ((eqb a m ≡ false) × (a ≢ m)) → bound_of (map h (range_with_len (a + 1) n)) ≤ c * bound_of (map g (range_with_len (a + 1) n)) → max (h a) 1 * bound_of (map h (range_with_len (a + 1) n)) ≤ c * (max (g a) 1 * bound_of (map g (range_with_len (a + 1) n)))
    at (inl d) more =
        let s : bound_of (map h (range_with_len (a + 1) n)) ≡ bound_of (map g (range_with_len (a + 1) n)) = bound_above h g (a + 1) n (λ k i. f k (λ z. omega (arith, d.1))) in
        here (max (h a) 1) c (max (g a) 1) _ _ (omega (arith, e, ap (λ x. max (h x) 1) d.1, ap (λ x. c * max (g x) 1) d.1)) s
      where
        here : (x c y B C : ℕ) → x ≤ c * y → B ≡ C → x * B ≤ c * (y * C)
        here x c y B C h e = rw e (let g : x * C ≤ (c * y) * C = mul-le-mul_right C h in omega arith)
    at (inr d) more = there (max (h a) 1) c (max (g a) 1) _ _ (ap (λ x. max x 1) (f a d.1)) more
      where
        there : (x c y B C : ℕ) → x ≡ y → B ≤ c * C → x * B ≤ c * (y * C)
        there x c y B C e h = rw e (let g : y * B ≤ y * (c * C) = mul-le-mul_left y h in omega arith)

least_more : (t : Bool) (n : ℕ) (ns : List ℕ) → t ≡ true → max (least (cond t (n ∷ ns) ns)) 1 ≤ max n 1 * max (least ns) 1
least_more false n ns e = absurd (cc)
least_more true n [] e = omega arith
least_more true n (m ∷ ns) e = omega (arith, mul-le-mul_right (max (least (m ∷ ns)) 1) (one n))
  where
    one : (n : ℕ) → 1 ≤ max n 1
    one n = omega arith

others_joined : (t : Bool) (n : ℕ) (ns : List ℕ) → t ≡ false → least (cond t (n ∷ ns) ns) ≡ least ns
others_joined true n ns e = absurd (cc)
others_joined false n ns e = refl

bound_none : (a n : ℕ) → bound_of (map (λ k. 0) (range_with_len a n)) ≡ 1
bound_none a zero = refl
bound_none a (suc n) = omega (arith, bound_none (a + 1) n)

pub bound_joined : (ms ns : List ℕ) (n : ℕ) → length ms ≡ length ns → bound_of (map (λ k. least (joined k ms ns)) (range_with_len 0 n)) ≤ bound_of ns
bound_joined [] [] n e = omega (arith, bound_none 0 n)
bound_joined [] (x ∷ ns) n e = absurd (omega arith)
bound_joined (m ∷ ms) [] n e = absurd (omega arith)
bound_joined (m ∷ ms) (x ∷ ns) n e =
    omega (
      arith,
      bound_more (λ k. least (joined k (m ∷ ms) (x ∷ ns))) (λ k. least (joined k ms ns)) (max x 1) m 0 n (omega arith)
          (least_more (m == m) x (joined m ms ns) (eq-eqb m m refl)) (λ k d. others_joined (m == k) x (joined k ms ns) (ne_eqb m k (λ e. d (sym e)))),
      mul-le-mul_left (max x 1) (bound_joined ms ns n (omega arith)),
    )
