-- What the steps of a view show after a change of its axes.
use Rattle.std.proofs.Common.{◌≡◌, ℕ, ℤ, pos, zero, suc, ◌+◌, ◌-◌, ◌*◌, ◌<◌, ◌≤◌, true, nat_lt, List, [], ◌∷◌, map, max, length, get_or, slice_set, refl, ap, sym, ◌∙◌, arith, subst}
use Rattle.std.proofs.Math.Nat.{mul-le-mul_left, mul-le-mul_right}
use Rattle.apl_arrays.specs.declared.axis.Axis.{Axis}
use Rattle.apl_arrays.specs.Index.{bound_of, indices, is_within, position_in}
use Rattle.apl_arrays.specs.Cells.{Arr, Items, Numbers, Characters}
use Rattle.apl_arrays.specs.Strides.{lengths, step_at, place_at, reach_of, seen, IsView}
use Rattle.apl_arrays.specs.Views.{selected, on_axis, reversed, cut}
use Rattle.apl_arrays.proofs.Places.{both, within_head}
use Rattle.apl_arrays.proofs.Order.{all_within, within_cons}
use Rattle.apl_arrays.proofs.InOrder.{map_same}
use Rattle.apl_arrays.proofs.AtPlace.{at_place}
use Rattle.apl_arrays.proofs.Steps.{reach_low, reach_up, get_or-lengths, length-lengths}

-- the array that steps show
abbrev pub shown : Items → ℕ → List Axis → Arr
shown items p xs = record { shape = lengths xs; items = seen items p xs }

-- each index list within the new shape stands where g of it stood
abbrev pub Leads : (List ℕ → List ℕ) → ℕ → List Axis → ℕ → List Axis → Type 0
Leads g p xs q ys = (i : List ℕ) → is_within (lengths ys) i ≡ true → (is_within (lengths xs) (g i) ≡ true) × (place_at q ys i ≡ place_at p xs (g i))

shown_list : {A : Type 0} (zs : List A) (d : A) (g : List ℕ → List ℕ) (p q : ℕ) (xs ys : List Axis) → Leads g p xs q ys →
    map (λ i. get_or zs (place_at q ys i) d) (indices (lengths ys))
    ≡ map (λ i. get_or (map (λ i. get_or zs (place_at p xs i) d) (indices (lengths xs))) (position_in (lengths xs) (g i)) d) (indices (lengths ys))
shown_list zs d g p q xs ys h =
    map_same (λ i. is_within (lengths ys) i ≡ true) (λ i. get_or zs (place_at q ys i) d)
    (λ i. get_or (map (λ i. get_or zs (place_at p xs i) d) (indices (lengths xs))) (position_in (lengths xs) (g i)) d)
    (λ i w. ap (λ r. get_or zs r d) (h i w).1 ∙ sym (at_place (λ i. get_or zs (place_at p xs i) d) d (lengths xs) (g i) (h i w).0))
    (indices (lengths ys)) (all_within (lengths ys))

pub shown_by : (items : Items) (g : List ℕ → List ℕ) (p q : ℕ) (xs ys : List Axis) → Leads g p xs q ys → shown items q ys ≡ selected (shown items p xs) (lengths ys) g
shown_by (Numbers zs) g p q xs ys h = ap (λ (l : List ℤ). record { shape = lengths ys; items = Numbers l }) (shown_list zs (pos 0) g p q xs ys h)
shown_by (Characters cs) g p q xs ys h = ap (λ (l : List ℕ). record { shape = lengths ys; items = Characters l }) (shown_list cs 0 g p q xs ys h)

pub view_by : (items : Items) (g : List ℕ → List ℕ) (p q : ℕ) (xs ys : List Axis) → Leads g p xs q ys → reach_of q ys ≤ reach_of p xs → bound_of (lengths ys) ≤ bound_of (lengths xs) →
    IsView items p xs → IsView items q ys
view_by items g p q xs ys h r b v = record {
  placed = λ i w. rw ((h i w).1) (v.placed (g i) (h i w).0);
  near = omega (arith, v.near);
  small = omega (arith, v.small);
  storable = v.storable;
}

-- an axis taken the other way
abbrev pub turned_back : Axis → Axis
turned_back a = record { length = a.length; up = a.down; down = a.up }

abbrev pub back_at : ℕ → List Axis → List Axis
back_at k [] = []
back_at zero (a ∷ xs) = turned_back a ∷ xs
back_at (suc k) (a ∷ xs) = a ∷ back_at k xs

pub back-set : (xs : List Axis) (k : ℕ) (d : Axis) → k < length xs → slice_set xs k (turned_back (get_or xs k d)) ≡ back_at k xs
back-set [] k d h = absurd (omega arith)
back-set (a ∷ xs) zero d h = refl
back-set (a ∷ xs) (suc k) d h = ap (λ l. a ∷ l) (back-set xs k d (omega arith))

pub lengths-back : (xs : List Axis) (k : ℕ) → lengths (back_at k xs) ≡ lengths xs
lengths-back [] k = refl
lengths-back (a ∷ xs) zero = refl
lengths-back (a ∷ xs) (suc k) = ap (λ l. a.length ∷ l) (lengths-back xs k)

reach-back : (xs : List Axis) (k p : ℕ) → reach_of p (back_at k xs) ≡ reach_of p xs
reach-back [] k p = refl
reach-back (a ∷ xs) zero p = ap (λ q. reach_of q xs) (turn p a.up a.down (a.length + 1))
  where
    turn : (p u d n : ℕ) → p + (d + u) * n ≡ p + (u + d) * n
    turn p u d n = omega arith
reach-back (a ∷ xs) (suc k) p = reach-back xs k (p + (a.up + a.down) * (a.length + 1))

-- an index list counted from the other end of an axis
abbrev pub mirrored : List ℕ → ℕ → List ℕ → List ℕ
mirrored s k i = on_axis k (λ j. get_or s k 0 - 1 - j) i

within-mirrored : (s : List ℕ) (k : ℕ) (i : List ℕ) → is_within s i ≡ true → is_within s (mirrored s k i) ≡ true
within-mirrored [] k [] w = w
within-mirrored [] k (i ∷ is) w = absurd (cc)
within-mirrored (n ∷ ns) k [] w = absurd (cc)
within-mirrored (n ∷ ns) zero (i ∷ is) w = within_cons n (n - 1 - i) ns is (less n i (within_head n i ns is w)) (both (nat_lt i n) (is_within ns is) w).1
  where
    less : (n i : ℕ) → i < n → n - 1 - i < n
    less n i h = omega arith
within-mirrored (n ∷ ns) (suc k) (i ∷ is) w = within_cons n i ns (mirrored ns k is) (within_head n i ns is w) (within-mirrored ns k is (both (nat_lt i n) (is_within ns is) w).1)

place_at-back : (xs : List Axis) (k p : ℕ) (i : List ℕ) → is_within (lengths xs) i ≡ true → place_at p (back_at k xs) i ≡ place_at p xs (mirrored (lengths xs) k i)
place_at-back [] k p i w = refl
place_at-back (a ∷ xs) k p [] w = absurd (cc)
place_at-back (a ∷ xs) zero p (i ∷ is) w = ap (λ q. place_at (p + q) xs is) (turn a.up a.down a.length i (within_head a.length i (lengths xs) is w))
  where
    turn : (u d n i : ℕ) → i < n → d * i + u * (n - 1 - i) ≡ u * (n - 1 - i) + d * (n - 1 - (n - 1 - i))
    turn u d n i h = let e : n - 1 - (n - 1 - i) ≡ i = omega arith in rw e (omega arith)
place_at-back (a ∷ xs) (suc k) p (i ∷ is) w = place_at-back xs k (p + step_at a i) is (both (nat_lt i a.length) (is_within (lengths xs) is) w).1

pub leads_back : (xs : List Axis) (k p : ℕ) → Leads (mirrored (lengths xs) k) p xs p (back_at k xs)
leads_back xs k p i w =
    let v : is_within (lengths xs) i ≡ true = rw (lengths-back xs k) at w in
    (within-mirrored (lengths xs) k i v, place_at-back xs k p i v)

-- so the view of an axis taken the other way is one
pub view_reversed : (items : Items) (p : ℕ) (xs ys : List Axis) (k : ℕ) (d : Axis) → k < length xs → ys ≡ slice_set xs k (turned_back (get_or xs k d)) → IsView items p xs → IsView items p ys
view_reversed items p xs ys k d h e v =
    let f : ys ≡ back_at k xs = e ∙ back-set xs k d h in
    let P : List Axis → Type 0 = λ zs. IsView items p zs in
    subst P (sym f) (view_by items (mirrored (lengths xs) k) p p xs (back_at k xs) (leads_back xs k p) (omega (arith, reach-back xs k p)) (omega (arith, ap bound_of (lengths-back xs k))) v)

-- and shows it
pub shown_reversed : (items : Items) (p : ℕ) (xs ys : List Axis) (k : ℕ) (d : Axis) (a : Arr) → k < length xs → ys ≡ slice_set xs k (turned_back (get_or xs k d)) → shown items p xs ≡ a → shown items p ys ≡ reversed k a
shown_reversed items p xs ys k d a h e f =
    ap (λ (zs : List Axis). shown items p zs) (e ∙ back-set xs k d h)
    ∙ shown_by items (mirrored (lengths xs) k) p p xs (back_at k xs) (leads_back xs k p)
    ∙ ap (λ (s : List ℕ). selected (shown items p xs) s (mirrored (lengths xs) k)) (lengths-back xs k)
    ∙ ap (reversed k) f

-- an axis cut
abbrev pub cut_axis : Axis → ℕ → Axis
cut_axis a len = record { length = len; up = a.up; down = a.down }

abbrev pub cut_at : ℕ → ℕ → List Axis → List Axis
cut_at k len [] = []
cut_at zero len (a ∷ xs) = cut_axis a len ∷ xs
cut_at (suc k) len (a ∷ xs) = a ∷ cut_at k len xs

-- how far its first element lies further on
abbrev pub cut_skip : Axis → ℕ → ℕ → ℕ
cut_skip a from len = a.up * from + a.down * (a.length - from - len)

pub cut-set : (xs : List Axis) (k len : ℕ) (d : Axis) → k < length xs → slice_set xs k (cut_axis (get_or xs k d) len) ≡ cut_at k len xs
cut-set [] k len d h = absurd (omega arith)
cut-set (a ∷ xs) zero len d h = refl
cut-set (a ∷ xs) (suc k) len d h = ap (λ l. a ∷ l) (cut-set xs k len d (omega arith))

pub lengths-cut : (xs : List Axis) (k len : ℕ) → lengths (cut_at k len xs) ≡ on_axis k (λ n. len) (lengths xs)
lengths-cut [] k len = refl
lengths-cut (a ∷ xs) zero len = refl
lengths-cut (a ∷ xs) (suc k) len = ap (λ l. a.length ∷ l) (lengths-cut xs k len)

place_at-cut : (xs : List Axis) (d : Axis) (k from len p : ℕ) (i : List ℕ) → k < length xs → from + len ≤ (get_or xs k d).length → is_within (lengths (cut_at k len xs)) i ≡ true →
    place_at (p + cut_skip (get_or xs k d) from len) (cut_at k len xs) i ≡ place_at p xs (on_axis k (λ j. j + from) i)
place_at-cut [] d k from len p i h l w = absurd (omega arith)
place_at-cut (a ∷ xs) d zero from len p [] h l w = absurd (cc)
place_at-cut (a ∷ xs) d zero from len p (i ∷ is) h l w = ap (λ q. place_at q xs is) (turn p a.up a.down from len a.length i (within_head len i (lengths xs) is w) l)
  where
    turn : (p u d f m n i : ℕ) → i < m → f + m ≤ n → (p + (u * f + d * (n - f - m))) + (u * i + d * (m - 1 - i)) ≡ p + (u * (i + f) + d * (n - 1 - (i + f)))
    turn p u d f m n i h l = ring p u d f i (n - f - m) (m - 1 - i) (n - 1 - (i + f)) (omega arith)
      where
        ring : (p u d f i a b c : ℕ) → c ≡ a + b → (p + (u * f + d * a)) + (u * i + d * b) ≡ p + (u * (i + f) + d * c)
        ring p u d f i a b c e = rw e (omega arith)
place_at-cut (a ∷ xs) d (suc k) from len p [] h l w = absurd (cc)
place_at-cut (a ∷ xs) d (suc k) from len p (i ∷ is) h l w =
    ap (λ q. place_at q (cut_at k len xs) is) (turn p (cut_skip (get_or xs k d) from len) (step_at a i))
    ∙ place_at-cut xs d k from len (p + step_at a i) is (omega arith) l (both (nat_lt i a.length) (is_within (lengths (cut_at k len xs)) is) w).1
  where
    turn : (p d s : ℕ) → (p + d) + s ≡ (p + s) + d
    turn p d s = omega arith

within-cut : (xs : List Axis) (d : Axis) (k from len : ℕ) (i : List ℕ) → k < length xs → from + len ≤ (get_or xs k d).length → is_within (lengths (cut_at k len xs)) i ≡ true →
    is_within (lengths xs) (on_axis k (λ j. j + from) i) ≡ true
within-cut [] d k from len i h l w = absurd (omega arith)
within-cut (a ∷ xs) d zero from len [] h l w = absurd (cc)
within-cut (a ∷ xs) d zero from len (i ∷ is) h l w = within_cons a.length (i + from) (lengths xs) is (less i len from a.length (within_head len i (lengths xs) is w) l) (both (nat_lt i len) (is_within (lengths xs) is) w).1
  where
    less : (i m f n : ℕ) → i < m → f + m ≤ n → i + f < n
    less i m f n h l = omega arith
within-cut (a ∷ xs) d (suc k) from len [] h l w = absurd (cc)
within-cut (a ∷ xs) d (suc k) from len (i ∷ is) h l w =
    within_cons a.length i (lengths xs) (on_axis k (λ j. j + from) is) (within_head a.length i (lengths (cut_at k len xs)) is w)
    (within-cut xs d k from len is (omega arith) l (both (nat_lt i a.length) (is_within (lengths (cut_at k len xs)) is) w).1)

reach-cut : (xs : List Axis) (d : Axis) (k from len p : ℕ) → k < length xs → from + len ≤ (get_or xs k d).length → reach_of (p + cut_skip (get_or xs k d) from len) (cut_at k len xs) ≤ reach_of p xs
reach-cut [] d k from len p h l = absurd (omega arith)
reach-cut (a ∷ xs) d zero from len p h l =
    reach_up ((p + cut_skip a from len) + (a.up + a.down) * (len + 1)) (p + (a.up + a.down) * (a.length + 1)) xs (less p a.up a.down from len a.length l)
  where
    less : (p u d f m n : ℕ) → f + m ≤ n → (p + (u * f + d * (n - f - m))) + (u + d) * (m + 1) ≤ p + (u + d) * (n + 1)
    less p u d f m n l = ring p u d f m (n - f - m) n (omega arith)
      where
        ring : (p u d f m c n : ℕ) → n ≡ f + m + c → (p + (u * f + d * c)) + (u + d) * (m + 1) ≤ p + (u + d) * (n + 1)
        ring p u d f m c n e = rw e (let g : p + (u + d) * (f + m + c + 1) ≡ ((p + (u * f + d * c)) + (u + d) * (m + 1)) + (u * c + d * f) = omega arith in omega arith)
reach-cut (a ∷ xs) d (suc k) from len p h l =
    omega (arith, ap (λ q. reach_of q (cut_at k len xs)) (turn p (cut_skip (get_or xs k d) from len) ((a.up + a.down) * (a.length + 1))), reach-cut xs d k from len (p + (a.up + a.down) * (a.length + 1)) (omega arith) l)
  where
    turn : (p d s : ℕ) → (p + d) + s ≡ (p + s) + d
    turn p d s = omega arith

bound-cut : (xs : List Axis) (d : Axis) (k from len : ℕ) → k < length xs → from + len ≤ (get_or xs k d).length → bound_of (lengths (cut_at k len xs)) ≤ bound_of (lengths xs)
bound-cut [] d k from len h l = absurd (omega arith)
bound-cut (a ∷ xs) d zero from len h l = mul-le-mul_right (bound_of (lengths xs)) (less len a.length from l)
  where
    less : (m n f : ℕ) → f + m ≤ n → max m 1 ≤ max n 1
    less m n f l = omega arith
bound-cut (a ∷ xs) d (suc k) from len h l = mul-le-mul_left (max a.length 1) (bound-cut xs d k from len (omega arith) l)

pub leads_cut : (xs : List Axis) (d : Axis) (k from len p : ℕ) → k < length xs → from + len ≤ (get_or xs k d).length → Leads (on_axis k (λ j. j + from)) p xs (p + cut_skip (get_or xs k d) from len) (cut_at k len xs)
leads_cut xs d k from len p h l i w = (within-cut xs d k from len i h l w, place_at-cut xs d k from len p i h l w)

pub view_cut : (items : Items) (p q : ℕ) (xs ys : List Axis) (k from len : ℕ) (d : Axis) → k < length xs → from + len ≤ get_or (lengths xs) k 0 →
    ys ≡ slice_set xs k (cut_axis (get_or xs k d) len) → q ≡ p + cut_skip (get_or xs k d) from len → IsView items p xs → IsView items q ys
view_cut items p q xs ys k from len d h l e f v =
    let g : ys ≡ cut_at k len xs = e ∙ cut-set xs k len d h in
    let m : from + len ≤ (get_or xs k d).length = omega (arith, get_or-lengths xs k d h) in
    let P : List Axis → Type 0 = λ zs. IsView items q zs in
    let Q : ℕ → Type 0 = λ q. IsView items q (cut_at k len xs) in
    subst P (sym g) (subst Q (sym f)
    (view_by items (on_axis k (λ j. j + from)) p (p + cut_skip (get_or xs k d) from len) xs (cut_at k len xs) (leads_cut xs d k from len p h m) (reach-cut xs d k from len p h m) (bound-cut xs d k from len h m) v))

pub shown_cut : (items : Items) (p q : ℕ) (xs ys : List Axis) (k from len : ℕ) (d : Axis) (a : Arr) → k < length xs → from + len ≤ get_or (lengths xs) k 0 →
    ys ≡ slice_set xs k (cut_axis (get_or xs k d) len) → q ≡ p + cut_skip (get_or xs k d) from len → shown items p xs ≡ a → shown items q ys ≡ cut k from len a
shown_cut items p q xs ys k from len d a h l e f g =
    ap (λ (zs : List Axis). shown items q zs) (e ∙ cut-set xs k len d h)
    ∙ ap (λ (r : ℕ). shown items r (cut_at k len xs)) f
    ∙ shown_by items (on_axis k (λ j. j + from)) p (p + cut_skip (get_or xs k d) from len) xs (cut_at k len xs) (leads_cut xs d k from len p h (omega (arith, get_or-lengths xs k d h)))
    ∙ ap (λ (s : List ℕ). selected (shown items p xs) s (on_axis k (λ j. j + from))) (lengths-cut xs k len)
    ∙ ap (cut k from len) g

-- what a cut adds to the offset stays within the reach
pub skip_near : (xs : List Axis) (d : Axis) (k from len p n : ℕ) → k < length xs → from + len ≤ get_or (lengths xs) k 0 → reach_of p xs < n → p + cut_skip (get_or xs k d) from len < n
skip_near xs d k from len p n h l r =
    omega (arith, reach_low (p + cut_skip (get_or xs k d) from len) (cut_at k len xs), reach-cut xs d k from len p h (omega (arith, get_or-lengths xs k d h)))

-- an axis is within the view's where it is within the shape
pub axis_within : (items : Items) (p k : ℕ) (xs : List Axis) (a : Arr) → shown items p xs ≡ a → k < length a.shape → k < length xs
axis_within items p k xs a e h = omega (arith, ap (λ (a : Arr). length a.shape) e, length-lengths xs)

pub slice_within : (items : Items) (p k : ℕ) (xs ys : List Axis) (a : Arr) → shown items p xs ≡ a → k < length a.shape → ys ≡ xs → k < length ys
slice_within items p k xs ys a e h f = omega (arith, axis_within items p k xs a e h, ap length f)

pub length_within : (items : Items) (p k n : ℕ) (xs : List Axis) (a : Arr) → shown items p xs ≡ a → n ≤ get_or a.shape k 0 → n ≤ get_or (lengths xs) k 0
length_within items p k n xs a e h = omega (arith, ap (λ (a : Arr). get_or a.shape k 0) e)

-- what is written in one reading of the axes and read in another
pub set_in : (f : Axis → Axis) (xs ys zs ws : List Axis) (k : ℕ) (d : Axis) → ys ≡ xs → zs ≡ xs → ws ≡ slice_set zs k (f (get_or ys k d)) → ws ≡ slice_set xs k (f (get_or xs k d))
set_in f xs ys zs ws k d e g h = h ∙ ap (λ l. slice_set l k (f (get_or ys k d))) g ∙ ap (λ l. slice_set xs k (f (get_or l k d))) e
