-- Where index lists lead, and the last that leads to a place.
use Rattle.std.proofs.Common.{suc, zero, ◌≡◌, ◌≢◌, ℕ, ℤ, ◌+◌, ◌*◌, ◌<◌, ◌≤◌, ◌⊎◌, inl, inr, ◌==◌, Bool, true, false, cond, nat_lt, List, [], ◌∷◌, ◌++◌, drop, length, get_or, AllPairs, Option, Some, None, Result, Ok, Err, refl, ap, sym, ◌∙◌, subst, arith}
use Rattle.std.specs.Option.{option_map}
use Rattle.std.specs.List.{All, AllByRecursion, range_with_len}
use Rattle.std.proofs.lemmas.Bool.{cases_order, eqb-true, false_from_ne_true}
use Rattle.std.proofs.Math.Nat.{mul-le-mul_right}
use Rattle.std.proofs.lemmas.List.{get_or-map, map-id}
use Rattle.std.proofs.lemmas.List.Elements.{All-from_recursion, All-get_or, recursion_from_All}
use Rattle.std.proofs.lemmas.List.FromFn.{get_or-range_with_len}
use Rattle.std.proofs.lemmas.Nat.{same_from_place}
use Rattle.apl_faults.specs.declared.fault.Fault.{Fault}
use Rattle.apl_faults.specs.declared.fault.Fault.TheVariants.{Rank}
use Rattle.apl_arrays.specs.Cells.{Arr}
use Rattle.apl_arrays.specs.Checks.{demand, numbers_of, same}
use Rattle.apl_arrays.specs.Index.{indices, is_within, position_in, size_of}
use Rattle.apl_arrays.specs.Results.{all_ok, and_then, ok_map}
use Rattle.apl_arrays.proofs.AtPlace.{at_place}
use Rattle.apl_arrays.proofs.Order.{all_within, length-indices, places_in_order}
use Rattle.apl_arrays.proofs.Places.{both, position_in-lt, within_head}
use Rattle.apl_select.specs.Assignment.{either_of, last_to, last_where}
use Rattle.apl_select.specs.Indexing.{Places, all_picked, joined_shape, led_to, picked_by, place_numbered, slots_of}
use Rattle.apl_select.specs.inside.Reached.{AreOnAxes}
use Rattle.apl_select.proofs.Overlay.{same_is}
use Rattle.apl_select.proofs.Picking.{numbers_length, places_below, whole_full, whole_within}
use Rattle.apl_structure_laws.specs.Assignments.{IsSlot}
use Rattle.apl_structure_laws.proofs.Axes.{same-refl}

-- ---- the last that passes

last_where-none : {A : Type 0} (p : A → Bool) (xs : List A) (d : A) → ((k : ℕ) → k < length xs → p (get_or xs k d) ≡ false) → last_where p xs ≡ None
last_where-none p [] d h = refl
last_where-none p (x ∷ xs) d h =
    ap (λ o. either_of o (cond (p x) (Some x) None)) (last_where-none p xs d (λ k l. h (suc k) (omega arith))) ∙ ap (λ b. cond b (Some x) None) (h 0 (omega arith))

last_where-at : {A : Type 0} (p : A → Bool) (xs : List A) (d : A) (q : ℕ) → q < length xs → p (get_or xs q d) ≡ true → ((k : ℕ) → q < k → k < length xs → p (get_or xs k d) ≡ false) → last_where p xs ≡ Some (get_or xs q d)
last_where-at p [] d q l t h = absurd (omega arith)
last_where-at p (x ∷ xs) d zero l t h =
    ap (λ o. either_of o (cond (p x) (Some x) None)) (last_where-none p xs d (λ k b. h (suc k) (omega arith) (omega arith))) ∙ ap (λ b. cond b (Some x) None) t
last_where-at p (x ∷ xs) d (suc q) l t h =
    ap (λ o. either_of o (cond (p x) (Some x) None)) (last_where-at p xs d q (omega arith) t (λ k b c. h (suc k) (omega arith) (omega arith)))

-- ---- index lists by their places

at-position : (s i d : List ℕ) → is_within s i ≡ true → get_or (indices s) (position_in s i) d ≡ i
at-position s i d w = ap (λ l. get_or l (position_in s i) d) (sym (map-id (indices s))) ∙ at_place (λ i. i) d s i w

within-nth : (s d : List ℕ) (k : ℕ) → k < size_of s → is_within s (get_or (indices s) k d) ≡ true
within-nth s d k h = All-get_or (λ i. is_within s i ≡ true) (indices s) k d (omega (arith, length-indices s)) (All-from_recursion (λ i. is_within s i ≡ true) (indices s) (all_within s))

position-nth : (s d : List ℕ) (k : ℕ) → k < size_of s → position_in s (get_or (indices s) k d) ≡ k
position-nth s d k h =
    sym (get_or-map (position_in s) (indices s) k d 0 (omega (arith, length-indices s)))
    ∙ ap (λ l. get_or l k 0) (places_in_order s) ∙ get_or-range_with_len 0 (size_of s) k 0 h ∙ all k
  where
    all : (k : ℕ) → 0 + k ≡ k
    all k = omega arith

-- the place of the last index list that leads where i leads
pub last_to-is : (ps : List Places) (i j : List ℕ) → is_within (joined_shape ps) j ≡ true → led_to ps j ≡ led_to ps i →
    ((k : List ℕ) → is_within (joined_shape ps) k ≡ true → led_to ps k ≡ led_to ps i → position_in (joined_shape ps) k ≤ position_in (joined_shape ps) j) → last_to ps (led_to ps i) ≡ Some (position_in (joined_shape ps) j)
last_to-is ps i j w e behind =
    ap (option_map (position_in (joined_shape ps)))
    (last_where-at (λ k. same (led_to ps k) (led_to ps i)) (indices (joined_shape ps)) j (position_in (joined_shape ps) j) (omega (arith, position_in-lt (joined_shape ps) j w, length-indices (joined_shape ps))) here later
    ∙ ap Some (at-position (joined_shape ps) j j w))
  where
    here : same (led_to ps (get_or (indices (joined_shape ps)) (position_in (joined_shape ps) j) j)) (led_to ps i) ≡ true
    here = ap (λ k. same (led_to ps k) (led_to ps i)) (at-position (joined_shape ps) j j w) ∙ ap (λ l. same l (led_to ps i)) e ∙ same-refl (led_to ps i)

    not_there : (q : ℕ) → position_in (joined_shape ps) j < q → q < length (indices (joined_shape ps)) → same (led_to ps (get_or (indices (joined_shape ps)) q j)) (led_to ps i) ≡ true → ⊥
    not_there q h l t =
        let few : q < size_of (joined_shape ps) = omega (arith, length-indices (joined_shape ps)) in
        let b : position_in (joined_shape ps) (get_or (indices (joined_shape ps)) q j) ≤ position_in (joined_shape ps) j =
        behind (get_or (indices (joined_shape ps)) q j) (within-nth (joined_shape ps) j q few) (same_is (led_to ps (get_or (indices (joined_shape ps)) q j)) (led_to ps i) t) in
        omega (arith, position-nth (joined_shape ps) j q few)

    later : (q : ℕ) → position_in (joined_shape ps) j < q → q < length (indices (joined_shape ps)) → same (led_to ps (get_or (indices (joined_shape ps)) q j)) (led_to ps i) ≡ false
    later q h l = false_from_ne_true (same (led_to ps (get_or (indices (joined_shape ps)) q j)) (led_to ps i)) (not_there q h l)

-- ---- what slots pick is on the axes

all_ok-length : {A B E : Type 0} (f : A → Result B E) (xs : List A) (ys : List B) → all_ok f xs ≡ Ok ys → length ys ≡ length xs
all_ok-length f [] ys e = let same : [] ≡ ys = cc in ap length (sym same)
all_ok-length {B = B} {E = E} f (x ∷ xs) ys e = by (f x) (all_ok f xs) (all_ok-length f xs) refl e
  where
    by : (r : Result B E) (q : Result (List B) E) → ((zs : List B) → all_ok f xs ≡ Ok zs → length zs ≡ length xs) → all_ok f xs ≡ q → and_then r (λ y. ok_map (λ ys. y ∷ ys) q) ≡ Ok ys → length ys ≡ suc (length xs)
    by (Ok y) (Ok zs) h g e = let same : y ∷ zs ≡ ys = cc in ap length (sym same) ∙ ap suc (h zs g)
    by (Ok y) (Err x) h g e = absurd (cc)
    by (Err x) q h g e = absurd (cc)

abbrev IsOnAxis : ℕ → Places → Type 0
IsOnAxis n p = (length p.places ≡ size_of p.shape) × All (λ k. k < n) p.places

picked-on : (n origin : ℕ) (slot : Option Arr) (p : Places) → IsSlot slot → picked_by n origin slot ≡ Ok p → IsOnAxis n p
picked-on n origin None p h e =
    let same : p ≡ record { shape = n ∷ []; places = range_with_len 0 n } = cc in
    (whole_full p n same, whole_within p n same)
picked-on n origin (Some a) p h e = of (numbers_of a.items) refl e
  where
    counted : (zs : List ℤ) (r : Result (List ℕ) Fault) → numbers_of a.items ≡ Ok zs → all_ok (place_numbered n origin) zs ≡ r → ok_map (λ ps. record { shape = a.shape; places = ps }) r ≡ Ok p → IsOnAxis n p
    counted zs (Ok qs) f g e =
        let same : record { shape = a.shape; places = qs } ≡ p = cc in
        let long : length qs ≡ size_of a.shape = all_ok-length (place_numbered n origin) zs qs g ∙ numbers_length a.items zs f ∙ h.full in
        subst (IsOnAxis n) same (long, places_below n origin zs qs g)
    counted zs (Err x) f g e = absurd (cc)

    of : (r : Result (List ℤ) Fault) → numbers_of a.items ≡ r → and_then r (λ zs. ok_map (λ ps. record { shape = a.shape; places = ps }) (all_ok (place_numbered n origin) zs)) ≡ Ok p → IsOnAxis n p
    of (Ok zs) f e = counted zs (all_ok (place_numbered n origin) zs) f refl e
    of (Err x) f e = absurd (cc)

all-on : (ns : List ℕ) (origin : ℕ) (slots : List (Option Arr)) (ps : List Places) → length slots ≡ length ns → AllByRecursion IsSlot slots → all_picked ns origin slots ≡ Ok ps → AreOnAxes ns ps
all-on [] origin slots ps l h e = let same : [] ≡ ps = cc in subst (AreOnAxes []) same tt
all-on (n ∷ ns) origin [] ps l h e = absurd (omega arith)
all-on (n ∷ ns) origin (slot ∷ slots) ps l h e = by (picked_by n origin slot) (all_picked ns origin slots) refl refl (λ qs. all-on ns origin slots qs (omega arith) h.1) e
  where
    by : (r : Result Places Fault) (q : Result (List Places) Fault) → picked_by n origin slot ≡ r → all_picked ns origin slots ≡ q → ((qs : List Places) → all_picked ns origin slots ≡ Ok qs → AreOnAxes ns qs) →
        and_then r (λ p. ok_map (λ ps. p ∷ ps) q) ≡ Ok ps → AreOnAxes (n ∷ ns) ps
    by (Ok p) (Ok qs) f g rest e =
        let same : p ∷ qs ≡ ps = cc in
        let on = picked-on n origin slot p h.0 f in
        subst (AreOnAxes (n ∷ ns)) same (on.0, on.1, rest qs g)
    by (Ok p) (Err x) f g rest e = absurd (cc)
    by (Err x) q f g rest e = absurd (cc)

pub on_axes : (v : Arr) (origin : ℕ) (slots : List (Option Arr)) (ps : List Places) → All IsSlot slots → slots_of v origin slots ≡ Ok ps → AreOnAxes v.shape ps
on_axes v origin slots ps h e = by (length slots == length v.shape) refl e
  where
    by : (b : Bool) → (length slots == length v.shape) ≡ b → and_then (demand b Rank) (λ u. all_picked v.shape origin slots) ≡ Ok ps → AreOnAxes v.shape ps
    by true f e = all-on v.shape origin slots ps (eqb-true (length slots) (length v.shape) f) (recursion_from_All IsSlot slots h) e
    by false f e = absurd (cc)

-- ---- where no place is picked twice, each index list leads elsewhere

once : (places : List ℕ) (q r : ℕ) → AllPairs (λ j k. j ≢ k) places → q < length places → r < length places → get_or places q 0 ≡ get_or places r 0 → q ≡ r
once places q r apart l m e = by (cases_order q r)
  where
    by : (q ≡ r) ⊎ ((q < r) ⊎ (r < q)) → q ≡ r
    by (inl s) = s
    by (inr (inl b)) = absurd (apart q r 0 b m e)
    by (inr (inr b)) = absurd (apart r q 0 b l (sym e))

within_joined : (s t i : List ℕ) → is_within (s ++ t) i ≡ true → (position_in s i < size_of s) × (is_within t (drop (length s) i) ≡ true)
within_joined [] t i w = (omega arith, w)
within_joined (n ∷ ns) t [] w = absurd (cc)
within_joined (n ∷ ns) t (i ∷ is) w =
    let r = within_joined ns t is (both (nat_lt i n) (is_within (ns ++ t) is) w).1 in
    (below i n (size_of ns) (position_in ns is) (within_head n i (ns ++ t) is w) r.0, r.1)
  where
    below : (i n s p : ℕ) → i < n → p < s → i * s + p < n * s
    below i n s p h k = let g : (i + 1) * s ≤ n * s = mul-le-mul_right s (omega arith) in omega arith

split_same : (s t i j : List ℕ) → is_within (s ++ t) i ≡ true → is_within (s ++ t) j ≡ true → position_in s i ≡ position_in s j → drop (length s) i ≡ drop (length s) j → i ≡ j
split_same [] t i j v w e f = f
split_same (n ∷ ns) t [] j v w e f = absurd (cc)
split_same (n ∷ ns) t (i ∷ is) [] v w e f = absurd (cc)
split_same (n ∷ ns) t (i ∷ is) (j ∷ js) v w e f =
    let a : is_within (ns ++ t) is ≡ true = (both (nat_lt i n) (is_within (ns ++ t) is) v).1 in
    let b : is_within (ns ++ t) js ≡ true = (both (nat_lt j n) (is_within (ns ++ t) js) w).1 in
    let p = same_from_place i (position_in ns is) j (position_in ns js) (size_of ns) (within_joined ns t is a).0 (within_joined ns t js b).0 e in
    ap (λ k. k ∷ is) p.0 ∙ ap (λ l. j ∷ l) (split_same ns t is js a b p.1 f)

pub leads-once : (shape : List ℕ) (ps : List Places) (i j : List ℕ) → AreOnAxes shape ps → AllByRecursion (λ p. AllPairs (λ j k. j ≢ k) p.places) ps →
    is_within (joined_shape ps) i ≡ true → is_within (joined_shape ps) j ≡ true → led_to ps i ≡ led_to ps j → i ≡ j
leads-once [] [] [] [] f a v w e = refl
leads-once [] [] [] (j ∷ js) f a v w e = absurd (cc)
leads-once [] [] (i ∷ is) j f a v w e = absurd (cc)
leads-once [] (p ∷ ps) i j f a v w e = absurd f
leads-once (n ∷ ns) [] i j f a v w e = absurd f
leads-once (n ∷ ns) (p ∷ ps) i j f a v w e =
    let x = within_joined p.shape (joined_shape ps) i v in
    let y = within_joined p.shape (joined_shape ps) j w in
    let first : get_or p.places (position_in p.shape i) 0 ≡ get_or p.places (position_in p.shape j) 0 = cc in
    let rest : led_to ps (drop (length p.shape) i) ≡ led_to ps (drop (length p.shape) j) = cc in
    let long : length p.places ≡ size_of p.shape = f.0 in
    let k : position_in p.shape i < size_of p.shape = x.0 in
    let l : position_in p.shape j < size_of p.shape = y.0 in
    split_same p.shape (joined_shape ps) i j v w (once p.places (position_in p.shape i) (position_in p.shape j) a.0 (omega arith) (omega arith) first)
    (leads-once ns ps (drop (length p.shape) i) (drop (length p.shape) j) f.2 a.1 x.1 y.1 rest)
