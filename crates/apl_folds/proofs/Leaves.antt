-- Walks over no axis.
use Rattle.std.proofs.Common.{suc, zero, ◌≡◌, ℕ, ℤ, ◌-◌, ◌*◌, ◌≤◌, ◌<◌, List, [], ◌∷◌, ◌++◌, length, Option, None, Some, Result, Ok, Err, refl, ap, map, sym, subst, ◌∙◌, ◌+◌, arith, true}
use Rattle.std.specs.List.{flat_map, range_with_len}
use Rattle.std.specs.Option.{IfSome}
use Rattle.apl_faults.specs.declared.fault.Fault.{Fault}
use Rattle.apl_arrays.specs.declared.axis.Axis.{Axis}
use Rattle.apl_arrays.specs.Index.{indices, is_within}
use Rattle.apl_arrays.specs.Results.{and_then, ok_map, all_ok}
use Rattle.apl_arrays.specs.Strides.{lengths, step_at}
use Rattle.apl_arrays.proofs.InTurn.{all_ok-same}
use Rattle.apl_arrays.proofs.Order.{all_within, within_cons}
use Rattle.apl_folds.specs.Lines.{start_at, count_at, made}

pub asked : (has : ℕ → ℕ → Type 0) (p n : ℕ) (depth : Option ℕ) (xs : List Axis) → xs ≡ [] → IfSome depth (λ m. m < length xs) → has (start_at p depth [] []) (count_at n depth []) → has p n
asked has p n None xs e d h = h
asked has p n (Some m) xs e d h = let none : length xs ≡ 0 = ap length e in absurd (omega (arith, d))

pub one_leaf : (gives : ℕ → ℕ → Result ℤ Fault) (p n : ℕ) (depth : Option ℕ) (xs : List Axis) → xs ≡ [] → IfSome depth (λ m. m < length xs) → made gives p n depth xs ≡ and_then (gives p n) (λ z. Ok (z ∷ []))
one_leaf gives p n None xs e d = ap (made gives p n None) e
one_leaf gives p n (Some m) xs e d = let none : length xs ≡ 0 = ap length e in absurd (omega (arith, d))

pub leaf_pushed : (gives : ℕ → ℕ → Result ℤ Fault) (p n : ℕ) (depth : Option ℕ) (xs : List Axis) (old new : List ℤ) (z : ℤ) → xs ≡ [] → IfSome depth (λ m. m < length xs) → gives p n ≡ Ok z → new ≡ old ++ z ∷ [] →
    ok_map (λ ys. old ++ ys) (made gives p n depth xs) ≡ Ok new
leaf_pushed gives p n depth xs old new z e d h s =
    ap (ok_map (λ ys. old ++ ys)) (one_leaf gives p n depth xs e d ∙ ap (λ (r : Result ℤ Fault). and_then r (λ z. Ok (z ∷ []))) h) ∙ ap (λ (l : List ℤ). Ok l) (sym s)

pub leaf_fault : (gives : ℕ → ℕ → Result ℤ Fault) (p n : ℕ) (depth : Option ℕ) (xs : List Axis) (f : Fault) → xs ≡ [] → IfSome depth (λ m. m < length xs) → gives p n ≡ Err f → made gives p n depth xs ≡ Err f
leaf_fault gives p n depth xs f e d h = one_leaf gives p n depth xs e d ∙ ap (λ (r : Result ℤ Fault). and_then r (λ z. Ok (z ∷ []))) h

-- what a walk makes of a row
pub made_row : (gives : ℕ → ℕ → Result ℤ Fault) (p n : ℕ) (depth : Option ℕ) (q m : ℕ) (deeper : Option ℕ) (axis : Axis) (rest : List Axis) (i : ℕ) →
    ((xs : List Axis) (is : List ℕ) → start_at q deeper xs is ≡ start_at p depth (axis ∷ xs) (i ∷ is)) → ((is : List ℕ) → count_at m deeper is ≡ count_at n depth (i ∷ is)) →
    made gives q m deeper rest ≡ all_ok (λ is. gives (start_at p depth (axis ∷ rest) (i ∷ is)) (count_at n depth (i ∷ is))) (indices (lengths rest))
made_row gives p n depth q m deeper axis rest i starts counts =
    all_ok-same (λ is. is_within (lengths rest) is ≡ true) (λ is. gives (start_at q deeper rest is) (count_at m deeper is)) (λ is. gives (start_at p depth (axis ∷ rest) (i ∷ is)) (count_at n depth (i ∷ is)))
    (λ is w. ap (λ (a : ℕ). gives a (count_at m deeper is)) (starts rest is) ∙ ap (λ (b : ℕ). gives (start_at p depth (axis ∷ rest) (i ∷ is)) b) (counts is))
    (indices (lengths rest)) (all_within (lengths rest))

pub made_same : (f g : ℕ → ℕ → Result ℤ Fault) (p n : ℕ) (depth : Option ℕ) (xs : List Axis) → ((q m : ℕ) → f q m ≡ g q m) → made f p n depth xs ≡ made g p n depth xs
made_same f g p n depth xs h =
    all_ok-same (λ is. is_within (lengths xs) is ≡ true) (λ is. f (start_at p depth xs is) (count_at n depth is)) (λ is. g (start_at p depth xs is) (count_at n depth is))
    (λ is w. h (start_at p depth xs is) (count_at n depth is)) (indices (lengths xs)) (all_within (lengths xs))

one_apart : (axis : Axis) (k : ℕ) → axis.up ≡ 1 → axis.down ≡ 0 → step_at axis k ≡ k
one_apart axis k u d = step axis.up axis.down k (axis.length - 1 - k) u d
  where
    step : (u d k m : ℕ) → u ≡ 1 → d ≡ 0 → u * k + d * m ≡ k
    step u d k m e f = rw (e, f) (there k m)
      where
        there : (k m : ℕ) → 1 * k + 0 * m ≡ k
        there k m = omega arith

-- a walk over one axis along which the lines begin side by side
one_beside : (gives : ℕ → ℕ → Result ℤ Fault) (p n : ℕ) (axis : Axis) → axis.up ≡ 1 → axis.down ≡ 0 → made gives p n None (axis ∷ []) ≡ all_ok (λ q. gives q n) (range_with_len p axis.length)
one_beside gives p n axis u d = each 0 axis.length ∙ ap (λ (q : ℕ). all_ok (λ q. gives q n) (range_with_len q axis.length)) (first p)
  where
    first : (p : ℕ) → p + 0 ≡ p
    first p = omega arith

    next : (p a : ℕ) → p + (a + 1) ≡ p + a + 1
    next p a = omega arith

    each : (a m : ℕ) → all_ok (λ is. gives (start_at p None (axis ∷ []) is) (count_at n None is)) (flat_map (λ i. map (λ is. i ∷ is) (indices [])) (range_with_len a m)) ≡ all_ok (λ q. gives q n) (range_with_len (p + a) m)
    each a zero = refl
    each a (suc m) =
        ap (λ (r : Result (List ℤ) Fault). and_then (gives (p + step_at axis a) n) (λ y. ok_map (λ ys. y ∷ ys) r)) (each (a + 1) m ∙ ap (λ (q : ℕ). all_ok (λ q. gives q n) (range_with_len q m)) (next p a))
        ∙ ap (λ (q : ℕ). and_then (gives q n) (λ y. ok_map (λ ys. y ∷ ys) (all_ok (λ q. gives q n) (range_with_len (p + a + 1) m)))) (ap (λ (k : ℕ). p + k) (one_apart axis a u d))

pub columns_made : (gives : ℕ → ℕ → Result ℤ Fault) (p n : ℕ) (depth : Option ℕ) (xs : List Axis) (axis : Axis) (rest : List Axis) → xs ≡ axis ∷ rest → rest ≡ [] → depth ≡ None → axis.up ≡ 1 → axis.down ≡ 0 →
    all_ok (λ q. gives q n) (range_with_len p (p + axis.length - p)) ≡ made gives p n depth xs
columns_made gives p n depth xs axis rest e f o u d =
    ap (λ (m : ℕ). all_ok (λ q. gives q n) (range_with_len p m)) (size p axis.length)
    ∙ sym (ap (λ (o : Option ℕ). made gives p n o xs) o ∙ ap (made gives p n None) (e ∙ ap (λ (l : List Axis). axis ∷ l) f) ∙ one_beside gives p n axis u d)
  where
    size : (p n : ℕ) → p + n - p ≡ n
    size p n = omega arith

pub columns_asked : (has : ℕ → ℕ → Type 0) (p n : ℕ) (depth : Option ℕ) (xs : List Axis) (axis : Axis) (rest : List Axis) → xs ≡ axis ∷ rest → rest ≡ [] → depth ≡ None → axis.up ≡ 1 → axis.down ≡ 0 →
    ((is : List ℕ) → is_within (lengths xs) is ≡ true → has (start_at p depth xs is) (count_at n depth is)) → (q : ℕ) → p ≤ q → q < p + axis.length → has q n
columns_asked has p n depth xs axis rest e f o u d h q a b =
    let P : List Axis → Type 0 = λ ys. (is : List ℕ) → is_within (lengths ys) is ≡ true → has (start_at p None ys is) (count_at n None is) in
    let Q : Option ℕ → Type 0 = λ o. (is : List ℕ) → is_within (lengths xs) is ≡ true → has (start_at p o xs is) (count_at n o is) in
    let R : ℕ → Type 0 = λ r. has r n in
    subst R (ap (λ (k : ℕ). p + k) (one_apart axis (q - p) u d) ∙ back p q a)
    (subst P (e ∙ ap (λ (l : List Axis). axis ∷ l) f) (subst Q o h) ((q - p) ∷ []) (within_cons axis.length (q - p) [] [] (omega arith) refl))
  where
    back : (p q : ℕ) → p ≤ q → p + (q - p) ≡ q
    back p q a = omega arith
