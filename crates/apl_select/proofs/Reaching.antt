-- What slots reach axis after axis is what the index lists of their joined shape lead to.
use Rattle.std.proofs.Common.{zero, suc, ◌≡◌, ℕ, ◌+◌, ◌*◌, ◌<◌, ◌≤◌, true, nat_lt, ℤ, pos, List, [], ◌∷◌, ◌++◌, map, drop, length, get_or, refl, ap, sym, ◌∙◌, arith, append-nil, max}
use Rattle.std.specs.List.{flat_map, range_with_len, All}
use Rattle.std.proofs.lemmas.List.Folds.{flat_map-map}
use Rattle.std.proofs.lemmas.List.Elements.{All-get_or}
use Rattle.std.proofs.Math.Nat.{mul-le-mul_right}
use Rattle.apl_arrays.specs.Cells.{Items, Numbers, Characters, cells_of}
use Rattle.apl_arrays.specs.Structural.{made_of}
use Rattle.apl_arrays.specs.Index.{size_of, bound_of, indices, is_within, position_in}
use Rattle.apl_arrays.proofs.Places.{both, position_in-lt, within_head}
use Rattle.apl_arrays.proofs.Order.{map_map, places_in_order, all_within, within_cons}
use Rattle.apl_select.specs.Indexing.{Places, items_led_to, joined_shape, led_to}
use Rattle.apl_select.specs.inside.Reached.{crossed, led, reached, AreOnAxes}
use Rattle.apl_select.proofs.Lists.{flat_map_flat_map, map_flat_map, flat_map_same, flat_map_equal, map_equal, all_read, all_mapped}

-- the index lists of two shapes one after the other
pub indices_joined : {A : Type 0} (h : List ℕ → A) (s t : List ℕ) → map h (indices (s ++ t)) ≡ flat_map (λ i. map (λ j. h (i ++ j)) (indices t)) (indices s)
indices_joined h [] t = sym (append-nil (map h (indices t)))
indices_joined {A = A} h (n ∷ ns) t =
    map_flat_map h (λ k. map (λ is. k ∷ is) (indices (ns ++ t))) (range_with_len 0 n)
    ∙ flat_map_equal (λ k. map h (map (λ is. k ∷ is) (indices (ns ++ t)))) (λ k. flat_map after (map (λ is. k ∷ is) (indices ns)))
    (λ k. map_map h (λ is. k ∷ is) (indices (ns ++ t)) ∙ indices_joined (λ is. h (k ∷ is)) ns t ∙ sym (flat_map-map after (λ is. k ∷ is) (indices ns)))
    (range_with_len 0 n)
    ∙ sym (flat_map_flat_map after (λ k. map (λ is. k ∷ is) (indices ns)) (range_with_len 0 n))
  where
    after : List ℕ → List A
    after i = map (λ j. h (i ++ j)) (indices t)

pub position_front : (s i j : List ℕ) → is_within s i ≡ true → position_in s (i ++ j) ≡ position_in s i
position_front [] i j w = refl
position_front (n ∷ ns) [] j w = absurd (cc)
position_front (n ∷ ns) (i ∷ is) j w = ap (λ p. i * size_of ns + p) (position_front ns is j (both (nat_lt i n) (is_within ns is) w).1)

pub drop_prefix : (s i j : List ℕ) → is_within s i ≡ true → drop (length s) (i ++ j) ≡ j
drop_prefix [] [] j w = refl
drop_prefix [] (i ∷ is) j w = absurd (cc)
drop_prefix (n ∷ ns) [] j w = absurd (cc)
drop_prefix (n ∷ ns) (i ∷ is) j w = drop_prefix ns is j (both (nat_lt i n) (is_within ns is) w).1

-- the places on the way from a start, by index lists of what is joined
abbrev pub onward : List ℕ → List Places → ℕ → List ℕ
onward shape ps s = map (λ i. s * size_of shape + position_in shape (led_to ps i)) (indices (joined_shape ps))

-- one slot more
onward_step : (n : ℕ) (ns : List ℕ) (p : Places) (ps : List Places) (s : ℕ) → length p.places ≡ size_of p.shape →
    onward (n ∷ ns) (p ∷ ps) s ≡ flat_map (λ k. onward ns ps (s * n + k)) p.places
onward_step n ns p ps s full =
    indices_joined whole p.shape (joined_shape ps)
    ∙ flat_map_same (λ i. is_within p.shape i ≡ true) (λ i. map (λ j. whole (i ++ j)) (indices (joined_shape ps))) (λ i. row (position_in p.shape i))
    (λ i w. map_equal (λ j. whole (i ++ j)) (λ j. (s * n + get_or p.places (position_in p.shape i) 0) * size_of ns + position_in ns (led_to ps j))
    (λ j. ap (λ q. s * (n * size_of ns) + (get_or p.places q 0 * size_of ns + position_in ns (led_to ps (drop (length p.shape) (i ++ j))))) (position_front p.shape i j w)
    ∙ ap (λ (l : List ℕ). s * (n * size_of ns) + (get_or p.places (position_in p.shape i) 0 * size_of ns + position_in ns (led_to ps l))) (drop_prefix p.shape i j w)
    ∙ ring s n (size_of ns) (get_or p.places (position_in p.shape i) 0) (position_in ns (led_to ps j)))
    (indices (joined_shape ps)))
    (indices p.shape) (all_within p.shape)
    ∙ sym (flat_map-map row (position_in p.shape) (indices p.shape))
    ∙ ap (flat_map row) (places_in_order p.shape)
    ∙ sym (flat_map-map (λ k. onward ns ps (s * n + k)) (λ q. get_or p.places q 0) (range_with_len 0 (size_of p.shape)))
    ∙ ap (flat_map (λ k. onward ns ps (s * n + k))) (all_read p.places (size_of p.shape) 0 full)
  where
    whole : List ℕ → ℕ
    whole i = s * (n * size_of ns) + (get_or p.places (position_in p.shape i) 0 * size_of ns + position_in ns (led_to ps (drop (length p.shape) i)))

    row : ℕ → List ℕ
    row q = onward ns ps (s * n + get_or p.places q 0)

    ring : (s n b k r : ℕ) → s * (n * b) + (k * b + r) ≡ (s * n + k) * b + r
    ring s n b k r = omega arith

pub reached_onward : (starts shape : List ℕ) (ps : List Places) → AreOnAxes shape ps → reached starts shape ps ≡ flat_map (onward shape ps) starts
reached_onward starts [] [] f = each starts
  where
    one : (s : ℕ) → s ≡ s * 1 + 0
    one s = omega arith

    each : (starts : List ℕ) → starts ≡ flat_map (onward [] []) starts
    each [] = refl
    each (s ∷ starts) = ap (λ k. k ∷ starts) (one s) ∙ ap (λ l. (s * 1 + 0) ∷ l) (each starts)
reached_onward starts [] (p ∷ ps) f = absurd f
reached_onward starts (n ∷ ns) [] f = absurd f
reached_onward starts (n ∷ ns) (p ∷ ps) f =
    reached_onward (crossed starts n p.places) ns ps f.2
    ∙ flat_map_flat_map (onward ns ps) (λ s. map (λ k. s * n + k) p.places) starts
    ∙ flat_map_equal (λ s. flat_map (onward ns ps) (map (λ k. s * n + k) p.places)) (onward (n ∷ ns) (p ∷ ps))
    (λ s. flat_map-map (onward ns ps) (λ k. s * n + k) p.places ∙ sym (onward_step n ns p ps s f.0)) starts

pub reached_led : (shape : List ℕ) (ps : List Places) → AreOnAxes shape ps → reached (0 ∷ []) shape ps ≡ led shape ps
reached_led shape ps f =
    reached_onward (0 ∷ []) shape ps f ∙ append-nil (onward shape ps 0)
    ∙ map_equal (λ i. 0 * size_of shape + position_in shape (led_to ps i)) (λ i. position_in shape (led_to ps i)) (λ i. none (size_of shape) (position_in shape (led_to ps i))) (indices (joined_shape ps))
  where
    none : (b p : ℕ) → 0 * b + p ≡ p
    none b p = omega arith

-- an index list within two shapes one after the other
within_joined : (s t i : List ℕ) → is_within (s ++ t) i ≡ true → (position_in s i < size_of s) × (is_within t (drop (length s) i) ≡ true)
within_joined [] t i w = (omega arith, w)
within_joined (n ∷ ns) t [] w = absurd (cc)
within_joined (n ∷ ns) t (i ∷ is) w =
    let r = within_joined ns t is (both (nat_lt i n) (is_within (ns ++ t) is) w).1 in
    (below i n (size_of ns) (position_in ns is) (within_head n i (ns ++ t) is w) r.0, r.1)
  where
    below : (i n s p : ℕ) → i < n → p < s → i * s + p < n * s
    below i n s p h k = let g : (i + 1) * s ≤ n * s = mul-le-mul_right s (omega arith) in omega arith

-- slots lead to index lists within the shape
pub led_within : (shape : List ℕ) (ps : List Places) (i : List ℕ) → AreOnAxes shape ps → is_within (joined_shape ps) i ≡ true → is_within shape (led_to ps i) ≡ true
led_within [] [] i f w = refl
led_within [] (p ∷ ps) i f w = absurd f
led_within (n ∷ ns) [] i f w = absurd f
led_within (n ∷ ns) (p ∷ ps) i f w =
    let r = within_joined p.shape (joined_shape ps) i w in
    within_cons n (get_or p.places (position_in p.shape i) 0) ns (led_to ps (drop (length p.shape) i))
    (All-get_or (λ k. k < n) p.places (position_in p.shape i) 0 (omega (arith, f.0, r.0)) f.1)
    (led_within ns ps (drop (length p.shape) i) f.2 r.1)

-- so each place is within
pub led_below : (shape : List ℕ) (ps : List Places) → AreOnAxes shape ps → All (λ q. q < size_of shape) (led shape ps)
led_below shape ps f =
    all_mapped (λ q. q < size_of shape) (λ i. is_within (joined_shape ps) i ≡ true) (λ i. position_in shape (led_to ps i))
    (λ i w. position_in-lt shape (led_to ps i) (led_within shape ps i f w)) (indices (joined_shape ps)) (all_within (joined_shape ps))

-- one slot of them
pub on_axis_at : (shape : List ℕ) (ps : List Places) (k : ℕ) (d : Places) → AreOnAxes shape ps → k < length ps →
    (length (get_or ps k d).places ≡ size_of (get_or ps k d).shape) × All (λ j. j < get_or shape k 0) (get_or ps k d).places
on_axis_at [] [] k d f l = absurd (omega arith)
on_axis_at [] (p ∷ ps) k d f l = absurd f
on_axis_at (n ∷ ns) [] k d f l = absurd f
on_axis_at (n ∷ ns) (p ∷ ps) zero d f l = (f.0, f.1)
on_axis_at (n ∷ ns) (p ∷ ps) (suc k) d f l = on_axis_at ns ps k d f.2 (omega arith)

pub length_on_axes : (shape : List ℕ) (ps : List Places) → AreOnAxes shape ps → length ps ≡ length shape
length_on_axes [] [] f = refl
length_on_axes [] (p ∷ ps) f = absurd f
length_on_axes (n ∷ ns) [] f = absurd f
length_on_axes (n ∷ ns) (p ∷ ps) f = ap suc (length_on_axes ns ps f.2)

pub bound-append : (s t : List ℕ) → bound_of (s ++ t) ≡ bound_of s * bound_of t
bound-append [] t = omega arith
bound-append (n ∷ ns) t = ap (λ b. max n 1 * b) (bound-append ns t) ∙ turn (max n 1) (bound_of ns) (bound_of t)
  where
    turn : (a b c : ℕ) → a * (b * c) ≡ (a * b) * c
    turn a b c = omega arith

-- what is read at all places that are reached
pub read_led : {A : Type 0} (xs : List A) (d : A) (shape : List ℕ) (ps : List Places) → AreOnAxes shape ps →
    map (λ q. get_or xs q d) (reached (0 ∷ []) shape ps) ≡ map (λ i. get_or xs (position_in shape (led_to ps i)) d) (indices (joined_shape ps))
read_led xs d shape ps f =
    ap (map (λ q. get_or xs q d)) (reached_led shape ps f)
    ∙ map_map (λ q. get_or xs q d) (λ i. position_in shape (led_to ps i)) (indices (joined_shape ps))

-- what is read of elements
pub made_led : (items : Items) (shape : List ℕ) (ps : List Places) (qs : List ℕ) → AreOnAxes shape ps → qs ≡ reached (0 ∷ []) shape ps → made_of (λ A d fill xs. map (λ q. get_or xs q d) qs) items ≡ items_led_to items shape ps
made_led (Numbers zs) shape ps qs f e = ap (λ (l : List ℕ). Numbers (map (λ q. get_or zs q (pos 0)) l)) e ∙ ap (λ (l : List ℤ). Numbers l) (read_led zs (pos 0) shape ps f)
made_led (Characters cs) shape ps qs f e = ap (λ (l : List ℕ). Characters (map (λ q. get_or cs q 0) l)) e ∙ ap (λ (l : List ℕ). Characters l) (read_led cs 0 shape ps f)

-- the one element of a scalar
pub scalar_led : (items : Items) (shape : List ℕ) (ps : List Places) → length shape ≡ 0 → AreOnAxes shape ps → length (cells_of items) ≡ size_of shape → items ≡ items_led_to items shape ps
scalar_led items (n ∷ ns) ps e f full = absurd (omega arith)
scalar_led items [] (p ∷ ps) e f full = absurd f
scalar_led (Numbers []) [] [] e f full = absurd (omega arith)
scalar_led (Numbers (z ∷ [])) [] [] e f full = refl
scalar_led (Numbers (y ∷ z ∷ zs)) [] [] e f full = absurd (omega arith)
scalar_led (Characters []) [] [] e f full = absurd (omega arith)
scalar_led (Characters (c ∷ [])) [] [] e f full = refl
scalar_led (Characters (b ∷ c ∷ cs)) [] [] e f full = absurd (omega arith)
