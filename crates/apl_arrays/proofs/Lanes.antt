-- Lists of numbers in a type that stores them.
use Rattle.std.proofs.Common.{◌≡◌, ℕ, ◌+◌, ◌<◌, ◌≤◌, ℤ, pos, ◌≤ℤ◌, List, [], ◌∷◌, ◌++◌, map, length, take, get_or, set, FitsSigned, to_z, of_z, w64, sym, ◌∙◌, ap, subst, arith, add-one}
use Rattle.std.specs.Int.{Width, int_max, int_min}
use Rattle.std.specs.List.{All, Contains}
use Rattle.std.proofs.lemmas.Int.{ints, clamps, to_z-of_z}
use Rattle.std.proofs.lemmas.List.{map-set, map_more, map-append, length-map, get_or-map, take_all, take_more_set}
use Rattle.std.proofs.lemmas.List.Elements.{All-push, All-weaker}
use Rattle.apl_arrays.specs.Written.{serving, with_items}

-- what lies between two numbers that fit fits
pub fits_between : (w : Width) (a b z : ℤ) → FitsSigned w a → FitsSigned w b → a ≤ℤ z → z ≤ℤ b → FitsSigned w z
fits_between w a b z f g low high = omega (arith, ints)

-- an item written is its number written
pub numbers_set : {A : Type 0} (value : A → ℤ) (numbers : List A → List ℤ) → ((xs : List A) → numbers xs ≡ map value xs)
    → (xs : List A) (k : ℕ) (x : A) (z : ℤ) → value x ≡ z → numbers (set xs k x) ≡ set (numbers xs) k z
numbers_set value numbers each xs k x z e =
    each (set xs k x) ∙ map-set value xs k x ∙ ap (λ y. set (map value xs) k y) e ∙ sym (ap (λ ys. set ys k z) (each xs))

-- with one item more, all lie between the least and the greatest
pub range_more : {A : Type 0} (value : A → ℤ) (xs : List A) (i : ℕ) (d : A) → i < length xs → (a b c e : ℤ)
    → c ≡ int_min a (value (get_or xs i d)) → e ≡ int_max b (value (get_or xs i d))
    → All (λ z. (a ≤ℤ z) × (z ≤ℤ b)) (map value (take i xs)) → All (λ z. (c ≤ℤ z) × (z ≤ℤ e)) (map value (take (i + 1) xs))
range_more value xs i d within a b c e least greatest before =
    let z = value (get_or xs i d) in
    let wider : All (λ y. (c ≤ℤ y) × (y ≤ℤ e)) (map value (take i xs)) = All-weaker (λ y. (a ≤ℤ y) × (y ≤ℤ b)) (λ y. (c ≤ℤ y) × (y ≤ℤ e)) (λ y h. (further y h.0, beyond y h.1)) (map value (take i xs)) before in
    subst (All (λ y. (c ≤ℤ y) × (y ≤ℤ e))) (sym (map_more value xs i d within)) (All-push (λ y. (c ≤ℤ y) × (y ≤ℤ e)) (map value (take i xs)) z wider (lower, upper))
  where
    further : (y : ℤ) → a ≤ℤ y → c ≤ℤ y
    further y h = omega (arith, ints, clamps)

    beyond : (y : ℤ) → y ≤ℤ b → y ≤ℤ e
    beyond y h = omega (arith, ints, clamps)

    lower : c ≤ℤ value (get_or xs i d)
    lower = omega (arith, ints, clamps)

    upper : value (get_or xs i d) ≤ℤ e
    upper = omega (arith, ints, clamps)

-- all were read, and so lie between the two
pub range_all : {A : Type 0} (value : A → ℤ) (numbers : List A → List ℤ) → ((xs : List A) → numbers xs ≡ map value xs)
    → (xs : List A) (i : ℕ) → length xs ≤ i → (a b r s : ℤ) → r ≡ a → s ≡ b → FitsSigned w64 a → FitsSigned w64 b
    → All (λ z. (a ≤ℤ z) × (z ≤ℤ b)) (map value (take i xs)) → All (λ z. (to_z w64 (of_z w64 r) ≤ℤ z) × (z ≤ℤ to_z w64 (of_z w64 s))) (numbers xs)
range_all value numbers each xs i all a b r s ra sb fa fb h =
    let same : map value (take i xs) ≡ numbers xs = ap (map value) (take_all i xs all) ∙ sym (each xs) in
    All-weaker (λ z. (a ≤ℤ z) × (z ≤ℤ b)) (λ z. (to_z w64 (of_z w64 r) ≤ℤ z) × (z ≤ℤ to_z w64 (of_z w64 s))) (λ y g. (low y g.0, high y g.1)) (numbers xs) (subst (All (λ z. (a ≤ℤ z) × (z ≤ℤ b))) same h)
  where
    low : (y : ℤ) → a ≤ℤ y → to_z w64 (of_z w64 r) ≤ℤ y
    low y g = omega (arith, ints)

    high : (y : ℤ) → y ≤ℤ b → y ≤ℤ to_z w64 (of_z w64 s)
    high y g = omega (arith, ints)

-- what a number is in another type, as a call says it
pub low_here : {B : Type 0} (other : B → ℤ) (w : Width) (r z : ℤ) (y : B) → r ≡ z → FitsSigned w64 z
    → (FitsSigned w (to_z w64 (of_z w64 r)) → other y ≡ to_z w64 (of_z w64 r)) → FitsSigned w z → other y ≡ z
low_here other w r z y same fits low h =
    let e : to_z w64 (of_z w64 r) ≡ z = ap (λ x. to_z w64 (of_z w64 x)) same ∙ to_z-of_z w64 z fits in
    low (subst (λ x. FitsSigned w x) (sym e) h) ∙ e

-- one number more is converted
pub converted_more : {A B : Type 0} (value : A → ℤ) (other : B → ℤ) (xs : List A) (ys : List B) (i : ℕ) (d : A) (y : B)
    → i < length xs → length ys ≡ length xs → other y ≡ value (get_or xs i d)
    → map other (take i ys) ≡ map value (take i xs) → map other (take (i + 1) (set ys i y)) ≡ map value (take (i + 1) xs)
converted_more value other xs ys i d y within long same before =
    ap (map other) (take_more_set ys i y (omega arith)) ∙ map-append other (take i ys) (y ∷ [])
    ∙ ap (λ zs. zs ++ other y ∷ []) before ∙ ap (λ x. map value (take i xs) ++ x ∷ []) same ∙ sym (map_more value xs i d within)

-- the number of an item is among the numbers
pub number_among : {A : Type 0} (value : A → ℤ) (numbers : List A → List ℤ) → ((xs : List A) → numbers xs ≡ map value xs)
    → (xs : List A) (i : ℕ) (d : A) → i < length xs → Contains (numbers xs) (value (get_or xs i d))
number_among value numbers each xs i d within =
    let z = value (get_or xs i d) in
    let among : Contains (map value xs) z = (i, rw (length-map xs value) within, get_or-map value xs i d z within) in
    subst (λ zs. Contains zs z) (sym (each xs)) among

-- one number more is written
pub written_more : {A B : Type 0} (value : A → ℤ) (other : B → ℤ) (numbers : List B → List ℤ) → ((xs : List B) → numbers xs ≡ map other xs)
    → (old : List ℤ) (out : List A) (places : List ℕ) (ys : List B) (k j : ℕ) (d : B) (x : A)
    → j ≡ serving (length ys) k → j < length ys → value x ≡ other (get_or ys j d)
    → map value out ≡ with_items (pos 0) old places (numbers ys) k → map value (set out (get_or places k 0) x) ≡ with_items (pos 0) old places (numbers ys) (k + 1)
written_more value other numbers each old out places ys k j d x s l same before =
    map-set value out (get_or places k 0) x ∙ ap (λ zs. set zs (get_or places k 0) (value x)) before
    ∙ ap (λ z. set (with_items (pos 0) old places (numbers ys) k) (get_or places k 0) z) (same ∙ sym served)
    ∙ ap (λ n. with_items (pos 0) old places (numbers ys) n) (sym (add-one k))
  where
    served : get_or (numbers ys) (serving (length (numbers ys)) k) (pos 0) ≡ other (get_or ys j d)
    served = ap (λ zs. get_or zs (serving (length zs) k) (pos 0)) (each ys) ∙ ap (λ n. get_or (map other ys) (serving n k) (pos 0)) (length-map ys other)
        ∙ ap (λ i. get_or (map other ys) i (pos 0)) (sym s) ∙ get_or-map other ys j d (pos 0) l
