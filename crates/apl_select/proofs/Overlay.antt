-- The last write to each place stands.
use Rattle.std.proofs.Common.{◌≡◌, ℕ, ◌&&◌, Bool, true, false, cond, List, [], ◌∷◌, ◌++◌, map, length, get_or, refl, ap, sym, ◌∙◌, Option, None, Some}
use Rattle.std.specs.Prelude.{nat_eq}
use Rattle.std.specs.Option.{option_map}
use Rattle.std.specs.List.{range_with_len, AllByRecursion}
use Rattle.std.proofs.lemmas.Bool.{eqb-true, eq-eqb}
use Rattle.apl_arrays.specs.Index.{size_of, indices, is_within, position_in}
use Rattle.apl_arrays.specs.Checks.{same}
use Rattle.apl_arrays.proofs.Places.{both}
use Rattle.apl_arrays.proofs.Order.{map_by_places, places_in_order, all_within}
use Rattle.apl_arrays.proofs.InOrder.{map_same}
use Rattle.apl_arrays.proofs.AtPlace.{at_place}
use Rattle.apl_select.specs.Lined.{place_served, item_or}
use Rattle.apl_select.specs.Indexing.{Places, joined_shape, led_to}
use Rattle.apl_select.specs.Assignment.{either_of, last_where, last_to, overlaid}
use Rattle.apl_select.specs.inside.Reached.{led, AreOnAxes}
use Rattle.apl_select.specs.inside.Written.{put_at}
use Rattle.apl_select.proofs.Reaching.{led_within}

either_none : {A : Type 0} (o : Option A) → either_of o None ≡ o
either_none None = refl
either_none (Some x) = refl

either_other : {A : Type 0} (o p q : Option A) → either_of (either_of o p) q ≡ either_of o (either_of p q)
either_other None p q = refl
either_other (Some x) p q = refl

-- one item more
pub last_where_more : {A : Type 0} (p : A → Bool) (xs : List A) (y : A) → last_where p (xs ++ y ∷ []) ≡ either_of (cond (p y) (Some y) None) (last_where p xs)
last_where_more p [] y = sym (either_none (cond (p y) (Some y) None))
last_where_more p (x ∷ xs) y = ap (λ o. either_of o (cond (p x) (Some x) None)) (last_where_more p xs y) ∙ either_other (cond (p y) (Some y) None) (last_where p xs) (cond (p x) (Some x) None)

-- the last one by what f makes of each
last_where_map : {A B : Type 0} (p : B → Bool) (f : A → B) (xs : List A) → option_map f (last_where (λ x. p (f x)) xs) ≡ last_where p (map f xs)
last_where_map {A = A} {B = B} p f [] = refl
last_where_map {A = A} {B = B} p f (x ∷ xs) =
    parts (last_where (λ x. p (f x)) xs) (p (f x)) ∙ ap (λ o. either_of o (cond (p (f x)) (Some (f x)) None)) (last_where_map p f xs)
  where
    parts : (o : Option A) (b : Bool) → option_map f (either_of o (cond b (Some x) None)) ≡ either_of (option_map f o) (cond b (Some (f x)) None)
    parts None true = refl
    parts None false = refl
    parts (Some y) b = refl

-- tests that agree
last_where_same : {A : Type 0} (P : A → Type 0) (p q : A → Bool) → ((x : A) → P x → p x ≡ q x) → (xs : List A) → AllByRecursion P xs → last_where p xs ≡ last_where q xs
last_where_same P p q h [] a = refl
last_where_same P p q h (x ∷ xs) a =
    ap (λ b. either_of (last_where p xs) (cond b (Some x) None)) (h x a.0) ∙ ap (λ o. either_of o (cond (q x) (Some x) None)) (last_where_same P p q h xs a.1)

pub same_is : (s t : List ℕ) → same s t ≡ true → s ≡ t
same_is [] [] h = refl
same_is [] (n ∷ ns) h = absurd (cc)
same_is (m ∷ ms) [] h = absurd (cc)
same_is (m ∷ ms) (n ∷ ns) h =
    let p = both (nat_eq m n) (same ms ns) h in
    ap (λ x. x ∷ ms) (eqb-true m n p.0) ∙ ap (λ l. n ∷ l) (same_is ms ns p.1)

is_same : (s : List ℕ) → same s s ≡ true
is_same [] = refl
is_same (n ∷ ns) = ap (λ b. b && same ns ns) (eq-eqb n n refl) ∙ is_same ns

-- index lists within a shape differ where their places do
apart : (s i j : List ℕ) → is_within s i ≡ true → is_within s j ≡ true → position_in s i ≡ position_in s j → i ≡ j
apart s i j w v e =
    sym (at_place (λ i. i) [] s i w) ∙ ap (λ p. get_or (map (λ i. i) (indices s)) p []) e ∙ at_place (λ i. i) [] s j v

same_place : (s i j : List ℕ) → is_within s i ≡ true → is_within s j ≡ true → same i j ≡ nat_eq (position_in s i) (position_in s j)
same_place s i j w v = cases (same i j) (nat_eq (position_in s i) (position_in s j)) (λ h. same_is i j h) (λ h. apart s i j w v (eqb-true (position_in s i) (position_in s j) h))
    (λ e. ap (λ l. same l j) e ∙ is_same j) (λ e. eq-eqb (position_in s i) (position_in s j) (ap (position_in s) e))
  where
    cases : (a b : Bool) → (a ≡ true → i ≡ j) → (b ≡ true → i ≡ j) → (i ≡ j → a ≡ true) → (i ≡ j → b ≡ true) → a ≡ b
    cases true true f g h k = refl
    cases true false f g h k = sym (k (f refl))
    cases false true f g h k = h (g refl)
    cases false false f g h k = refl

-- the last index list that leads to one is the last place that is its place
last_led : (shape : List ℕ) (ps : List Places) (i : List ℕ) → AreOnAxes shape ps → is_within shape i ≡ true →
    last_to ps i ≡ last_where (λ k. nat_eq (get_or (led shape ps) k 0) (position_in shape i)) (range_with_len 0 (size_of (joined_shape ps)))
last_led shape ps i f w =
    ap (option_map (position_in (joined_shape ps)))
    (last_where_same (λ j. is_within (joined_shape ps) j ≡ true) (λ j. same (led_to ps j) i) (λ j. test (position_in (joined_shape ps) j))
    (λ j v. same_place shape (led_to ps j) i (led_within shape ps j f v) w
    ∙ ap (λ p. nat_eq p (position_in shape i)) (sym (at_place (λ j. position_in shape (led_to ps j)) 0 (joined_shape ps) j v)))
    (indices (joined_shape ps)) (all_within (joined_shape ps)))
    ∙ last_where_map test (position_in (joined_shape ps)) (indices (joined_shape ps))
    ∙ ap (last_where test) (places_in_order (joined_shape ps))
  where
    test : ℕ → Bool
    test k = nat_eq (get_or (led shape ps) k 0) (position_in shape i)

-- index list by index list as place by place
pub overlaid_put : {A : Type 0} (d : A) (xs ys : List A) (shape : List ℕ) (ps : List Places) → AreOnAxes shape ps →
    overlaid d xs ys shape (last_to ps) ≡ map (λ q. put_at xs ys (led shape ps) (size_of (joined_shape ps)) q d) (range_with_len 0 (size_of shape))
overlaid_put d xs ys shape ps f =
    map_same (λ i. is_within shape i ≡ true) (λ i. item_or (get_or xs (position_in shape i) d) ys (option_map (place_served (length ys)) (last_to ps i)))
    (λ i. put_at xs ys (led shape ps) (size_of (joined_shape ps)) (position_in shape i) d)
    (λ i w. ap (λ o. item_or (get_or xs (position_in shape i) d) ys (option_map (place_served (length ys)) o)) (last_led shape ps i f w))
    (indices shape) (all_within shape)
    ∙ map_by_places shape (λ q. put_at xs ys (led shape ps) (size_of (joined_shape ps)) q d)
