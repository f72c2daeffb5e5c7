-- Folds as they depend on the last number, with a number more.
use Rattle.std.proofs.Common.{zero, suc, ◌≡◌, ◌⊎◌, inl, inr, ℕ, ℤ, pos, negsuc, ◌+ℤ◌, ◌-ℤ◌, ◌*ℤ◌, neg_ℤ, ◌≤ℤ◌, ◌<ℤ◌, ◌^◌, ◌+◌, ◌-◌, ◌*◌, ◌/◌, ◌<◌, ◌≤◌, min, Bool, true, false, not, nat_lt, cond, List, [], ◌∷◌, ◌++◌, Result, Ok, Err, FitsSigned, refl, ap, sym, ◌∙◌, arith}
use Rattle.std.specs.Int.{w64, saturate_signed}
use Rattle.std.proofs.lemmas.Bool.{ltb-true, ltb-false}
use Rattle.std.proofs.lemmas.Int.{ints}
use Rattle.std.proofs.Math.Nat.{div-le_self, le-div_iff_mul-le}
use borrow.Author.Differences.{up, down, same_in, product_is}
use Rattle.apl_faults.specs.declared.fault.Fault.{Fault}
use Rattle.apl_faults.specs.declared.fault.Fault.TheVariants.{Limit}
use Rattle.apl_arrays.specs.Results.{and_then}
use Rattle.apl_scalar.specs.declared.function.Dyadic.TheVariants as two
use Rattle.apl_scalar.specs.Functions.{dyadic_of, in_range}
use Rattle.apl_scalar.proofs.Signs.{in_range-fits}
use Rattle.apl_folds.specs.declared.scale.Scale.{Scale}
use Rattle.apl_folds.specs.declared.swing.Swing.{Swing}
use Rattle.apl_folds.specs.inside.Reach.{Reaches, signed, IsWithin, IsBeyond, IsSwing, IsSmall, IsLarge, IsScale}
use Rattle.apl_folds.specs.Lines.{fold_by}
use Rattle.apl_folds.proofs.LastTwo.{with_two}

-- a number fits, or it is a limit fault
in_or_out : (z : ℤ) → (FitsSigned w64 z) ⊎ (in_range z ≡ Err Limit)
in_or_out (pos n) = split (nat_lt n (2 ^ 63)) refl
  where
    split : (b : Bool) → nat_lt n (2 ^ 63) ≡ b → (FitsSigned w64 (pos n)) ⊎ (in_range (pos n) ≡ Err Limit)
    split true t = let l : n < 2 ^ 63 = ltb-true n (2 ^ 63) t in inl (omega (arith, ints))
    split false t = inr (ap (λ (b : Bool). cond b (Ok (pos n)) (Err Limit)) t)
in_or_out (negsuc n) = split (nat_lt n (2 ^ 63)) refl
  where
    split : (b : Bool) → nat_lt n (2 ^ 63) ≡ b → (FitsSigned w64 (negsuc n)) ⊎ (in_range (negsuc n) ≡ Err Limit)
    split true t = let l : n < 2 ^ 63 = ltb-true n (2 ^ 63) t in inl (omega (arith, ints))
    split false t = inr (ap (λ (b : Bool). cond b (Ok (negsuc n)) (Err Limit)) t)

-- a number more turns each next one into another, which is in reach where the next one is now
record Turns (Near Far NearNow FarNow : ℤ → Type 0) (value valueNow turned : ℤ → ℤ) : Type 0 where
  small : (y : ℤ) → Near y → FitsSigned w64 y
  near : (y : ℤ) → NearNow y → Near (turned y)
  far : (y : ℤ) → FitsSigned w64 y → FarNow y → Far (turned y)
  values : (y : ℤ) → value (turned y) ≡ valueNow y

reach_next : (f : ℤ → ℤ → Result ℤ Fault) (xs : List ℤ) (x : ℤ) (Near Far NearNow FarNow : ℤ → Type 0) (value valueNow turned : ℤ → ℤ) → ((y : ℤ) → f x y ≡ in_range (turned y)) →
    Turns Near Far NearNow FarNow value valueNow turned → Reaches f xs Near Far value → Reaches f (xs ++ x ∷ []) NearNow FarNow valueNow
reach_next f xs x Near Far NearNow FarNow value valueNow turned by turns before = record {
  fits = λ y n. let h : FitsSigned w64 (value (turned y)) = before.fits (turned y) (turns.near y n) in rw (sym (turns.values y)) h;
  near = λ y n.
      let h : Near (turned y) = turns.near y n in
      step y ∙ ap (λ (r : Result ℤ Fault). and_then r (λ w. fold_by f (xs ++ w ∷ []))) (in_range-fits (turned y) (turns.small (turned y) h))
      ∙ before.near (turned y) h ∙ ap (λ (z : ℤ). Ok z) (turns.values y);
  far = λ y fits n. step y ∙ out (turned y) (turns.far y fits n) (in_or_out (turned y));
}
  where
    step : (y : ℤ) → fold_by f ((xs ++ x ∷ []) ++ y ∷ []) ≡ and_then (in_range (turned y)) (λ w. fold_by f (xs ++ w ∷ []))
    step y = with_two f xs x y ∙ ap (λ (r : Result ℤ Fault). and_then r (λ w. fold_by f (xs ++ w ∷ []))) (by y)

    out : (z : ℤ) → Far z → (FitsSigned w64 z) ⊎ (in_range z ≡ Err Limit) → and_then (in_range z) (λ w. fold_by f (xs ++ w ∷ [])) ≡ Err Limit
    out z n (inl fits) = ap (λ (r : Result ℤ Fault). and_then r (λ w. fold_by f (xs ++ w ∷ []))) (in_range-fits z fits) ∙ before.far z fits n
    out z n (inr e) = ap (λ (r : Result ℤ Fault). and_then r (λ w. fold_by f (xs ++ w ∷ []))) e

-- a number that is moved to the nearest that fits
low_kept : (z t : ℤ) → t ≡ saturate_signed w64 z → z ≤ℤ pos 0 → z ≤ℤ t
low_kept (pos n) t e h = rw e (omega (arith, ints))
low_kept (negsuc n) t e h = rw e (omega (arith, ints))

low_least : (z t y : ℤ) → t ≡ saturate_signed w64 z → z ≤ℤ pos 0 → FitsSigned w64 y → y <ℤ t → y <ℤ z
low_least (pos n) t y e h fits l = omega (arith, ints)
low_least (negsuc n) t y e h fits l = omega (arith, ints)

high_kept : (z t : ℤ) → t ≡ saturate_signed w64 z → pos 0 ≤ℤ z → t ≤ℤ z
high_kept (pos n) t e h = rw e (omega (arith, ints))
high_kept (negsuc n) t e h = absurd (omega (arith, ints))

high_greatest : (z t y : ℤ) → t ≡ saturate_signed w64 z → pos 0 ≤ℤ z → FitsSigned w64 y → t <ℤ y → z <ℤ y
high_greatest (pos n) t y e h fits l = omega (arith, ints)
high_greatest (negsuc n) t y e h fits l = absurd (omega (arith, ints))

below_none : (a b : ℤ) → a ≤ℤ b → (a -ℤ b) ≤ℤ pos 0
below_none a b h = omega (arith, ints)

above_none : (a b : ℤ) → a ≤ℤ b → pos 0 ≤ℤ (b -ℤ a)
above_none a b h = omega (arith, ints)

-- addition turns a next number into its sum with this one
pub sum_next : (xs : List ℤ) (s t : Swing) (x : ℤ) → FitsSigned w64 s.least → FitsSigned w64 s.greatest → IsWithin s x → s.less ≡ false → t.less ≡ s.less → t.fold ≡ s.fold +ℤ signed s.less x →
    t.least ≡ saturate_signed w64 (s.least -ℤ x) → t.greatest ≡ saturate_signed w64 (s.greatest -ℤ x) → IsSwing (dyadic_of two.Plus) s xs → IsSwing (dyadic_of two.Plus) t (xs ++ x ∷ [])
sum_next xs s t x low high within plus same fold least greatest =
    reach_next (dyadic_of two.Plus) xs x (IsWithin s) (IsBeyond s) (IsWithin t) (IsBeyond t) (λ y. s.fold +ℤ signed s.less y) (λ y. t.fold +ℤ signed t.less y) (λ y. x +ℤ y) (λ y. refl) (record {
      small = λ y n. small y s.least s.greatest low high n.0 n.1;
      near = λ y n. (
        inside_low s.least x t.least y (low_kept (s.least -ℤ x) t.least least (below_none s.least x within.0)) n.0,
        inside_high s.greatest x t.greatest y (high_kept (s.greatest -ℤ x) t.greatest greatest (above_none x s.greatest within.1)) n.1,
      );
      far = λ y fits side. sides y fits side;
      values = λ y.
          ap (λ (b : Bool). s.fold +ℤ signed b (x +ℤ y)) plus ∙ group s.fold x y
          ∙ ap (λ (b : Bool). (s.fold +ℤ signed b x) +ℤ y) (sym plus) ∙ ap (λ (z : ℤ). z +ℤ y) (sym fold)
          ∙ ap (λ (b : Bool). t.fold +ℤ signed b y) (sym (same ∙ plus));
    })
  where
    small : (y a b : ℤ) → FitsSigned w64 a → FitsSigned w64 b → a ≤ℤ y → y ≤ℤ b → FitsSigned w64 y
    small y a b fa fb l h = omega (arith, ints)

    inside_low : (a x t y : ℤ) → (a -ℤ x) ≤ℤ t → t ≤ℤ y → a ≤ℤ (x +ℤ y)
    inside_low a x t y h l = omega (arith, ints)

    inside_high : (b x t y : ℤ) → t ≤ℤ (b -ℤ x) → y ≤ℤ t → (x +ℤ y) ≤ℤ b
    inside_high b x t y h l = omega (arith, ints)

    group : (a x y : ℤ) → a +ℤ (x +ℤ y) ≡ (a +ℤ x) +ℤ y
    group a x y = omega (arith, ints)

    under : (a x y : ℤ) → y <ℤ (a -ℤ x) → (x +ℤ y) <ℤ a
    under a x y h = omega (arith, ints)

    over : (b x y : ℤ) → (b -ℤ x) <ℤ y → b <ℤ (x +ℤ y)
    over b x y h = omega (arith, ints)

    sides : (y : ℤ) → FitsSigned w64 y → IsBeyond t y → IsBeyond s (x +ℤ y)
    sides y fits (inl l) = inl (under s.least x y (low_least (s.least -ℤ x) t.least y least (below_none s.least x within.0) fits l))
    sides y fits (inr l) = inr (over s.greatest x y (high_greatest (s.greatest -ℤ x) t.greatest y greatest (above_none x s.greatest within.1) fits l))

-- subtraction turns it into this number less it
pub difference_next : (xs : List ℤ) (s t : Swing) (x : ℤ) → FitsSigned w64 s.least → FitsSigned w64 s.greatest → IsWithin s x → t.less ≡ not s.less → t.fold ≡ s.fold +ℤ signed s.less x →
    t.least ≡ saturate_signed w64 (x -ℤ s.greatest) → t.greatest ≡ saturate_signed w64 (x -ℤ s.least) → IsSwing (dyadic_of two.Minus) s xs → IsSwing (dyadic_of two.Minus) t (xs ++ x ∷ [])
difference_next xs s t x low high within other fold least greatest =
    reach_next (dyadic_of two.Minus) xs x (IsWithin s) (IsBeyond s) (IsWithin t) (IsBeyond t) (λ y. s.fold +ℤ signed s.less y) (λ y. t.fold +ℤ signed t.less y) (λ y. x -ℤ y) (λ y. refl) (record {
      small = λ y n. small y s.least s.greatest low high n.0 n.1;
      near = λ y n. (
        inside_low s.least x t.greatest y (high_kept (x -ℤ s.least) t.greatest greatest (above_none s.least x within.0)) n.1,
        inside_high s.greatest x t.least y (low_kept (x -ℤ s.greatest) t.least least (below_none x s.greatest within.1)) n.0,
      );
      far = λ y fits side. sides y fits side;
      values = λ y. group s.less s.fold x y ∙ ap (λ (z : ℤ). z +ℤ signed (not s.less) y) (sym fold) ∙ ap (λ (b : Bool). t.fold +ℤ signed b y) (sym other);
    })
  where
    small : (y a b : ℤ) → FitsSigned w64 a → FitsSigned w64 b → a ≤ℤ y → y ≤ℤ b → FitsSigned w64 y
    small y a b fa fb l h = omega (arith, ints)

    inside_low : (a x t y : ℤ) → t ≤ℤ (x -ℤ a) → y ≤ℤ t → a ≤ℤ (x -ℤ y)
    inside_low a x t y h l = omega (arith, ints)

    inside_high : (b x t y : ℤ) → (x -ℤ b) ≤ℤ t → t ≤ℤ y → (x -ℤ y) ≤ℤ b
    inside_high b x t y h l = omega (arith, ints)

    group : (b : Bool) (a x y : ℤ) → a +ℤ signed b (x -ℤ y) ≡ (a +ℤ signed b x) +ℤ signed (not b) y
    group false a x y = omega (arith, ints)
    group true a x y = omega (arith, ints)

    over : (b x y : ℤ) → y <ℤ (x -ℤ b) → b <ℤ (x -ℤ y)
    over b x y h = omega (arith, ints)

    under : (a x y : ℤ) → (x -ℤ a) <ℤ y → (x -ℤ y) <ℤ a
    under a x y h = omega (arith, ints)

    sides : (y : ℤ) → FitsSigned w64 y → IsBeyond t y → IsBeyond s (x -ℤ y)
    sides y fits (inl l) = inr (over s.greatest x y (low_least (x -ℤ s.greatest) t.least y least (below_none x s.greatest within.1) fits l))
    sides y fits (inr l) = inl (under s.least x y (high_greatest (x -ℤ s.least) t.greatest y greatest (above_none s.least x within.0) fits l))

-- of no number
pub swing_none : (f : ℤ → ℤ → Result ℤ Fault) → IsSwing f (record { fold = pos 0; less = false; least = negsuc 9223372036854775807; greatest = pos 9223372036854775807 }) []
swing_none f = record { fits = λ x n. near x n.0 n.1; near = λ x n. ap (λ (z : ℤ). Ok z) (none x); far = λ x fits side. absurd (far x fits side) }
  where
    near : (x : ℤ) → negsuc 9223372036854775807 ≤ℤ x → x ≤ℤ pos 9223372036854775807 → FitsSigned w64 (pos 0 +ℤ x)
    near x a b = omega (arith, ints)

    none : (x : ℤ) → x ≡ pos 0 +ℤ x
    none x = omega (arith, ints)

    far : (x : ℤ) → FitsSigned w64 x → (x <ℤ negsuc 9223372036854775807) ⊎ (pos 9223372036854775807 <ℤ x) → ⊥
    far x fits (inl l) = omega (arith, ints)
    far x fits (inr l) = omega (arith, ints)

product_assoc : (a b c : ℤ) → (a *ℤ b) *ℤ c ≡ a *ℤ (b *ℤ c)
product_assoc a b c =
    let ab = product_is a b in
    let bc = product_is b c in
    let by = λ (k : ℕ) (m n : ℕ) (e : m ≡ n). ap (λ x. x * k) e in
    let left = product_is (a *ℤ b) c in
    let right = product_is a (b *ℤ c) in
    let ups : up ((a *ℤ b) *ℤ c) ≡ up (a *ℤ (b *ℤ c)) =
    omega (arith, by (up c) _ _ ab.0, by (down c) _ _ ab.1, by (up a) _ _ bc.0, by (down a) _ _ bc.1) in
    let downs : down ((a *ℤ b) *ℤ c) ≡ down (a *ℤ (b *ℤ c)) =
    omega (arith, by (down c) _ _ ab.0, by (up c) _ _ ab.1, by (down a) _ _ bc.0, by (up a) _ _ bc.1) in
    same_in _ _ (λ i. ups i + sym downs i)

-- a number that is at most a quotient, and one that is more
within_quotient : (m n a q : ℕ) → q ≤ a / suc m → n ≤ q → suc m * n ≤ a
within_quotient m n a q e h =
    let k : n * suc m ≤ a = (le-div_iff_mul-le {k = suc m} {x = n} {y = a} (omega arith)).0 (omega arith) in
    turned (suc m) n a k
  where
    turned : (d n a : ℕ) → n * d ≤ a → d * n ≤ a
    turned d n a k = omega arith

beyond_quotient : (m n a q : ℕ) → a / suc m ≤ q → q < n → a < suc m * n
beyond_quotient m n a q e h = split (nat_lt a (suc m * n)) refl
  where
    turned : (d n a : ℕ) → d * n ≤ a → n * d ≤ a
    turned d n a k = omega arith

    split : (b : Bool) → nat_lt a (suc m * n) ≡ b → a < suc m * n
    split true t = ltb-true a (suc m * n) t
    split false t =
        let k : n ≤ a / suc m = (le-div_iff_mul-le {k = suc m} {x = n} {y = a} (omega arith)).1 (turned (suc m) n a (ltb-false a (suc m * n) t)) in
        absurd (omega arith)

opposite_small : (s : Scale) (k : ℕ) → k ≤ s.below → IsSmall s (neg_ℤ (pos k))
opposite_small s zero h = omega arith
opposite_small s (suc k) h = omega arith

opposite_large : (s : Scale) (k : ℕ) → s.below < k → IsLarge s (neg_ℤ (pos k))
opposite_large s zero h = absurd (omega arith)
opposite_large s (suc k) h = omega arith

-- multiplication turns a next number into its product with this one
pub scale_next : (xs : List ℤ) (s t : Scale) (x : ℤ) → t.product ≡ s.product *ℤ x → (x ≡ pos 0 → (t.below ≡ 2 ^ 63) × (t.above ≡ 2 ^ 63 - 1)) →
    ((m : ℕ) → x ≡ pos (suc m) → (t.below ≡ s.below / suc m) × (t.above ≡ s.above / suc m)) →
    ((m : ℕ) → x ≡ negsuc m → (t.below ≡ s.above / suc m) × (t.above ≡ min (s.below / suc m) (2 ^ 63 - 1))) → IsScale (dyadic_of two.Times) s xs → IsScale (dyadic_of two.Times) t (xs ++ x ∷ [])
scale_next xs s t x product none positive negative before = record {
  below = (bounds x none positive negative).0;
  above = (bounds x none positive negative).1;
  reaches =
      reach_next (dyadic_of two.Times) xs x (IsSmall s) (IsLarge s) (IsSmall t) (IsLarge t) (λ y. s.product *ℤ y) (λ y. t.product *ℤ y) (λ y. x *ℤ y) (λ y. refl) (record {
        small = small;
        near = near x none positive negative;
        far = far x none positive negative;
        values = λ y. sym (product_assoc s.product x y) ∙ ap (λ (z : ℤ). z *ℤ y) (sym product);
      }) before.reaches;
}
  where
    small : (y : ℤ) → IsSmall s y → FitsSigned w64 y
    small (pos n) h = omega (arith, ints, before.above)
    small (negsuc n) h = omega (arith, ints, before.below)

    less : (a m : ℕ) → a / suc m ≤ a
    less a m = div-le_self a (suc m)

    bounds : (x : ℤ) → (x ≡ pos 0 → (t.below ≡ 2 ^ 63) × (t.above ≡ 2 ^ 63 - 1)) → ((m : ℕ) → x ≡ pos (suc m) → (t.below ≡ s.below / suc m) × (t.above ≡ s.above / suc m)) →
        ((m : ℕ) → x ≡ negsuc m → (t.below ≡ s.above / suc m) × (t.above ≡ min (s.below / suc m) (2 ^ 63 - 1))) → (t.below ≤ 2 ^ 63) × (t.above < 2 ^ 63)
    bounds (pos zero) none positive negative = let e = none refl in (omega (arith, e.0), omega (arith, e.1))
    bounds (pos (suc m)) none positive negative = let e = positive m refl in (omega (arith, e.0, less s.below m, before.below), omega (arith, e.1, less s.above m, before.above))
    bounds (negsuc m) none positive negative = let e = negative m refl in (omega (arith, e.0, less s.above m, before.above), omega (arith, e.1))

    near : (x : ℤ) → (x ≡ pos 0 → (t.below ≡ 2 ^ 63) × (t.above ≡ 2 ^ 63 - 1)) → ((m : ℕ) → x ≡ pos (suc m) → (t.below ≡ s.below / suc m) × (t.above ≡ s.above / suc m)) →
        ((m : ℕ) → x ≡ negsuc m → (t.below ≡ s.above / suc m) × (t.above ≡ min (s.below / suc m) (2 ^ 63 - 1))) → (y : ℤ) → IsSmall t y → IsSmall s (x *ℤ y)
    near (pos zero) none positive negative (pos n) h = omega arith
    near (pos zero) none positive negative (negsuc n) h = opposite_small s (0 * suc n) (omega arith)
    near (pos (suc m)) none positive negative (pos n) h = let e = positive m refl in within_quotient m n s.above t.above (omega (arith, e.1)) h
    near (pos (suc m)) none positive negative (negsuc n) h = let e = positive m refl in opposite_small s (suc m * suc n) (within_quotient m (suc n) s.below t.below (omega (arith, e.0)) (omega arith))
    near (negsuc m) none positive negative (pos n) h = let e = negative m refl in opposite_small s (suc m * n) (within_quotient m n s.below t.above (omega (arith, e.1)) h)
    near (negsuc m) none positive negative (negsuc n) h = let e = negative m refl in within_quotient m (suc n) s.above t.below (omega (arith, e.0)) (omega arith)

    far : (x : ℤ) → (x ≡ pos 0 → (t.below ≡ 2 ^ 63) × (t.above ≡ 2 ^ 63 - 1)) → ((m : ℕ) → x ≡ pos (suc m) → (t.below ≡ s.below / suc m) × (t.above ≡ s.above / suc m)) →
        ((m : ℕ) → x ≡ negsuc m → (t.below ≡ s.above / suc m) × (t.above ≡ min (s.below / suc m) (2 ^ 63 - 1))) → (y : ℤ) → FitsSigned w64 y → IsLarge t y → IsLarge s (x *ℤ y)
    far (pos zero) none positive negative (pos n) fits h = let e = none refl in absurd (omega (arith, ints, e.1))
    far (pos zero) none positive negative (negsuc n) fits h = let e = none refl in absurd (omega (arith, ints, e.0))
    far (pos (suc m)) none positive negative (pos n) fits h = let e = positive m refl in beyond_quotient m n s.above t.above (omega (arith, e.1)) h
    far (pos (suc m)) none positive negative (negsuc n) fits h = let e = positive m refl in opposite_large s (suc m * suc n) (beyond_quotient m (suc n) s.below t.below (omega (arith, e.0)) (omega arith))
    far (negsuc m) none positive negative (pos n) fits h =
        let e = negative m refl in
        let q : s.below / suc m ≤ t.above = omega (arith, ints, e.1) in
        opposite_large s (suc m * n) (beyond_quotient m n s.below t.above q h)
    far (negsuc m) none positive negative (negsuc n) fits h = let e = negative m refl in beyond_quotient m (suc n) s.above t.below (omega (arith, e.0)) (omega arith)

pub scale_none : (f : ℤ → ℤ → Result ℤ Fault) → IsScale f (record { product = pos 1; below = 2 ^ 63; above = 2 ^ 63 - 1 }) []
scale_none f = record {
  below = omega arith;
  above = omega arith;
  reaches = record { fits = λ x n. near x n; near = λ x n. ap (λ (z : ℤ). Ok z) (none x); far = λ x fits n. absurd (far x fits n) };
}
  where
    none : (x : ℤ) → x ≡ pos 1 *ℤ x
    none x = omega (arith, ints)

    near : (x : ℤ) → IsSmall (record { product = pos 1; below = 2 ^ 63; above = 2 ^ 63 - 1 }) x → FitsSigned w64 (pos 1 *ℤ x)
    near (pos n) h = omega (arith, ints)
    near (negsuc n) h = omega (arith, ints)

    far : (x : ℤ) → FitsSigned w64 x → IsLarge (record { product = pos 1; below = 2 ^ 63; above = 2 ^ 63 - 1 }) x → ⊥
    far (pos n) fits h = omega (arith, ints)
    far (negsuc n) fits h = omega (arith, ints)
