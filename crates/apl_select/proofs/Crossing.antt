-- Places along one axis after another, as loops have them.
use Rattle.std.proofs.Common.{zero, suc, ◌≡◌, ℕ, ◌+◌, ◌*◌, ◌<◌, ◌≤◌, List, [], ◌∷◌, ◌++◌, map, take, drop, length, get_or, refl, ap, sym, ◌∙◌, arith, append-nil, append_assoc, length-append, subst}
use Rattle.std.specs.List.{All}
use Rattle.std.proofs.lemmas.Grind.{flat_map-append}
use Rattle.std.proofs.lemmas.List.{length-map, map-append, take_more, drop_all}
use Rattle.std.proofs.lemmas.List.Elements.{recursion_from_All}
use Rattle.std.proofs.Math.Nat.{mul-le-mul_left, mul-le-mul_right}
use Rattle.apl_arrays.specs.Index.{bound_of}
use Rattle.apl_arrays.proofs.Places.{rest_of, room_step, room_so_far, size_le_bound, bound_of-pos, mul_low}
use Rattle.apl_arrays.proofs.Order.{map_map}
use Rattle.apl_select.specs.Indexing.{Places, joined_shape}
use Rattle.apl_select.specs.inside.Reached.{crossed, reached, AreOnAxes}
use Rattle.apl_select.proofs.Lists.{all_imply, all_flat, all_mapped, rest_from}
use Rattle.apl_select.proofs.Laying.{length_small}
use Rattle.apl_select.proofs.Reaching.{on_axis_at, length_on_axes, bound-append}

crossed_next : (starts places : List ℕ) (n i : ℕ) → i < length starts → crossed (take (i + 1) starts) n places ≡ crossed (take i starts) n places ++ map (λ k. get_or starts i 0 * n + k) places
crossed_next starts places n i l =
    ap (λ z. crossed z n places) (take_more starts i 0 l)
    ∙ flat_map-append (λ s. map (λ k. s * n + k) places) (take i starts) (get_or starts i 0 ∷ [])
    ∙ ap (λ z. crossed (take i starts) n places ++ z) (append-nil (map (λ k. get_or starts i 0 * n + k) places))

pub crossed_more : {A : Type 0} (h : ℕ → A) (base out new : List A) (starts places : List ℕ) (n i : ℕ) → i < length starts → out ≡ base ++ map h (crossed (take i starts) n places) →
    new ≡ out ++ map (λ k. h (get_or starts i 0 * n + k)) places → new ≡ base ++ map h (crossed (take (i + 1) starts) n places)
crossed_more h base out new starts places n i l e g =
    g ∙ ap (λ z. z ++ map (λ k. h (get_or starts i 0 * n + k)) places) e
    ∙ append_assoc base (map h (crossed (take i starts) n places)) (map (λ k. h (get_or starts i 0 * n + k)) places)
    ∙ ap (λ z. base ++ (map h (crossed (take i starts) n places) ++ z)) (sym (map_map h (λ k. get_or starts i 0 * n + k) places))
    ∙ ap (λ z. base ++ z) (sym (map-append h (crossed (take i starts) n places) (map (λ k. get_or starts i 0 * n + k) places)))
    ∙ ap (λ z. base ++ map h z) (sym (crossed_next starts places n i l))

pub length-crossed : (starts places : List ℕ) (n : ℕ) → length (crossed starts n places) ≡ length starts * length places
length-crossed [] places n = omega arith
length-crossed (s ∷ starts) places n =
    simp length-append (omega (arith, length-map places (λ k. s * n + k), length-crossed starts places n))

-- a row of an axis from each start is near
pub near_rows : (starts shape : List ℕ) (k : ℕ) → k < length shape → All (λ s. (s + 1) * bound_of (drop k shape) ≤ 1000000) starts → All (λ s. s * get_or shape k 0 ≤ 1000000) starts
near_rows starts shape k l a = all_imply (λ s. (s + 1) * bound_of (drop k shape) ≤ 1000000) (λ s. s * get_or shape k 0 ≤ 1000000) (λ s h. each s (get_or shape k 0) refl h) starts a
  where
    each : (s n : ℕ) → n ≡ get_or shape k 0 → (s + 1) * bound_of (drop k shape) ≤ 1000000 → s * n ≤ 1000000
    each s zero e h = omega arith
    each s (suc n) e h = let g : s * get_or shape k 0 + 0 < 1000000 = room_so_far shape k s 0 1000000 l (omega arith) h in rw e (omega arith)

-- so are its places
pub near_more : (starts shape places news : List ℕ) (k : ℕ) → k < length shape → All (λ s. (s + 1) * bound_of (drop k shape) ≤ 1000000) starts → All (λ j. j < get_or shape k 0) places → news ≡ crossed starts (get_or shape k 0) places →
    All (λ s. (s + 1) * bound_of (drop (k + 1) shape) ≤ 1000000) news
near_more starts shape places news k l a b e =
    rw e
    (all_flat (λ s. (s + 1) * bound_of (drop (k + 1) shape) ≤ 1000000) (λ s. (s + 1) * bound_of (drop k shape) ≤ 1000000) (λ s. map (λ j. s * get_or shape k 0 + j) places)
    (λ s h. all_mapped (λ s. (s + 1) * bound_of (drop (k + 1) shape) ≤ 1000000) (λ j. j < get_or shape k 0) (λ j. s * get_or shape k 0 + j)
    (λ j g. room_step shape k s j 1000000 l g h) places (recursion_from_All (λ j. j < get_or shape k 0) places b))
    starts (recursion_from_All (λ s. (s + 1) * bound_of (drop k shape) ≤ 1000000) starts a))

-- the places of a slot
pub places_within : (shape : List ℕ) (picks : List Places) (k : ℕ) (d : Places) (places : List ℕ) → AreOnAxes shape picks → k < length shape → places ≡ (get_or picks k d).places → All (λ j. j < get_or shape k 0) places
places_within shape picks k d places f l e = rw e (on_axis_at shape picks k d f (omega (arith, length_on_axes shape picks f))).1

pub places_small : (shape : List ℕ) (picks : List Places) (k : ℕ) (d : Places) (places : List ℕ) → AreOnAxes shape picks → k < length shape → places ≡ (get_or picks k d).places → bound_of shape ≤ 1000000 → All (λ j. j < 1000000) places
places_small shape picks k d places f l e h =
    all_imply (λ j. j < get_or shape k 0) (λ j. j < 1000000) (λ j g. omega (arith, length_small shape k 1000000 h)) places (places_within shape picks k d places f l e)

-- there is room for the places of one slot more
pub room_more : (shape starts : List ℕ) (picks : List Places) (k : ℕ) (d : Places) (places : List ℕ) → AreOnAxes shape picks → k < length shape → places ≡ (get_or picks k d).places →
    length starts * bound_of (joined_shape (drop k picks)) ≤ 1000000 → (length starts * length places) * bound_of (joined_shape (drop (k + 1) picks)) ≤ 1000000
room_more shape starts picks k d places f l e h =
    at (length starts) (length places) (bound_of (get_or picks k d).shape) (bound_of (joined_shape (drop (k + 1) picks)))
    (omega (arith, ap length e, (on_axis_at shape picks k d f there).0, size_le_bound (get_or picks k d).shape))
    (rw (sym (bound-append (get_or picks k d).shape (joined_shape (drop (k + 1) picks)))) whole)
  where
    there : k < length picks
    there = omega (arith, length_on_axes shape picks f)

    whole : length starts * bound_of ((get_or picks k d).shape ++ joined_shape (drop (k + 1) picks)) ≤ 1000000
    whole = let P : List Places → Type 0 = λ ps. length starts * bound_of (joined_shape ps) ≤ 1000000 in subst P (rest_from picks k d there) h

    at : (a m b c : ℕ) → m ≤ b → a * (b * c) ≤ 1000000 → (a * m) * c ≤ 1000000
    at a m b c g h =
        let one : (a * m) * c ≤ (a * b) * c = mul-le-mul_right c (mul-le-mul_left a g) in
        let turn : (a * b) * c ≡ a * (b * c) = omega arith in
        omega arith

pub room_now : (shape starts : List ℕ) (picks : List Places) (k : ℕ) (d : Places) (places : List ℕ) → AreOnAxes shape picks → k < length shape → places ≡ (get_or picks k d).places →
    length starts * bound_of (joined_shape (drop k picks)) ≤ 1000000 → length starts * length places ≤ 1000000
room_now shape starts picks k d places f l e h =
    omega (arith, room_more shape starts picks k d places f l e h, mul_low (length starts * length places) (bound_of (joined_shape (drop (k + 1) picks))) (bound_of-pos (joined_shape (drop (k + 1) picks))))

-- the way goes on from the places of one slot more
pub way_more : (shape starts news : List ℕ) (picks : List Places) (k : ℕ) (d : Places) (places : List ℕ) → AreOnAxes shape picks → k < length shape → places ≡ (get_or picks k d).places → news ≡ crossed starts (get_or shape k 0) places →
    reached news (drop (k + 1) shape) (drop (k + 1) picks) ≡ reached starts (drop k shape) (drop k picks)
way_more shape starts news picks k d places f l e g =
    ap (λ z. reached z (drop (k + 1) shape) (drop (k + 1) picks)) (g ∙ ap (crossed starts (get_or shape k 0)) e)
    ∙ sym (ap (λ z. reached starts z (drop k picks)) (rest_of shape k l)
    ∙ ap (λ z. reached starts (get_or shape k 0 ∷ drop (k + 1) shape) z) (rest_from picks k d (omega (arith, length_on_axes shape picks f))))

-- and ends with those of the last slot
pub way_last : (shape starts whole : List ℕ) (picks : List Places) (k : ℕ) (d : Places) (places : List ℕ) → AreOnAxes shape picks → k < length shape → length shape ≤ k + 1 → places ≡ (get_or picks k d).places →
    reached starts (drop k shape) (drop k picks) ≡ whole → crossed starts (get_or shape k 0) places ≡ whole
way_last shape starts whole picks k d places f l m e g =
    sym (ap (λ z. reached (crossed starts (get_or shape k 0) places) z (drop (k + 1) picks)) (drop_all (k + 1) shape m))
    ∙ way_more shape starts (crossed starts (get_or shape k 0) places) picks k d places f l e refl
    ∙ g
