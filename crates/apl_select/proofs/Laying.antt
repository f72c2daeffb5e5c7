-- Places of an axis laid plane by plane, each with a block of the axes behind.
use Rattle.std.proofs.Common.{zero, suc, ◌≡◌, ℕ, ◌+◌, ◌*◌, ◌<◌, ◌≤◌, List, [], ◌∷◌, map, take, drop, length, get_or, refl, ap, sym, ◌∙◌, arith, append-nil, ◌-◌, ◌^◌, replicate, ℤ, pos, max, add-one, Option, None, Some}
use Rattle.std.specs.Option.{option_map}
use Rattle.std.specs.List.{flat_map, range_with_len, All}
use Rattle.std.proofs.lemmas.Grind.{common_steps}
use Rattle.std.proofs.lemmas.List.{get_or-take, get_or-drop}
use Rattle.std.proofs.lemmas.List.FromFn.{fill_by_all}
use Rattle.std.proofs.Math.Nat.{mul-le-mul_left, mul-le-mul_right}
use Rattle.std.proofs.lemmas.List.Folds.{flat_map-map}
use Rattle.std.proofs.lemmas.List.{length-map}
use Rattle.apl_arrays.specs.declared.cell.Cell.TheVariants.{Num, Char}
use Rattle.apl_arrays.specs.Cells.{Items, Numbers, Characters, cells_of}
use Rattle.apl_arrays.specs.Index.{size_of, bound_of, indices, position_in}
use Rattle.apl_arrays.specs.Structural.{made_of}
use Rattle.apl_arrays.proofs.Places.{bound_of-pos, mul_low}
use Rattle.apl_arrays.specs.Views.{on_axis}
use Rattle.apl_arrays.proofs.Order.{map_map, map_by_places, places_in_order}
use Rattle.std.specs.Prelude.{slice_set}
use Rattle.apl_select.specs.Lined.{item_or, filled}
use Rattle.apl_select.specs.inside.Laying.{block_of, plane_of, planes_of, IsBelow}
use Rattle.apl_select.proofs.Lists.{flat_map_flat_map, map_flat_map, flat_map_equal, map_equal, all_read, all_imply}

-- where an index list within the laid shape comes from
abbrev pub source_of : List ℕ → ℕ → List (Option ℕ) → List ℕ → Option ℕ
source_of s axis places i = option_map (position_in s) (option_map (λ place. on_axis axis (λ k. place) i) (get_or places (get_or i axis 0) None))

-- one axis more before
before : (n0 : ℕ) (ns : List ℕ) (axis k0 : ℕ) (places : List (Option ℕ)) (is : List ℕ) →
    source_of (n0 ∷ ns) (suc axis) places (k0 ∷ is) ≡ option_map (λ q. k0 * size_of ns + q) (source_of ns axis places is)
before n0 ns axis k0 places is = each (get_or places (get_or is axis 0) None)
  where
    each : (o : Option ℕ) →
        option_map (position_in (n0 ∷ ns)) (option_map (λ place. on_axis (suc axis) (λ k. place) (k0 ∷ is)) o)
        ≡ option_map (λ q. k0 * size_of ns + q) (option_map (position_in ns) (option_map (λ place. on_axis axis (λ k. place) is) o))
    each None = refl
    each (Some x) = refl

-- the size around an axis
pub size_around : (s : List ℕ) (axis : ℕ) → axis < length s → size_of s ≡ size_of (take axis s) * (get_or s axis 0 * size_of (drop (suc axis) s))
size_around [] axis l = absurd (omega arith)
size_around (n ∷ ns) zero l = one (n * size_of ns)
  where
    one : (b : ℕ) → b ≡ 1 * b
    one b = omega arith
size_around (n ∷ ns) (suc axis) l = ap (λ b. n * b) (size_around ns axis (omega arith)) ∙ turn n (size_of (take axis ns)) (get_or ns axis 0 * size_of (drop (suc axis) ns))
  where
    turn : (a b c : ℕ) → a * (b * c) ≡ (a * b) * c
    turn a b c = omega arith

-- rows of so many planes, one after another
rows_of : {A : Type 0} (h : ℕ → List A) (m a n : ℕ) → flat_map (λ k. flat_map (λ p. h (k * m + p)) (range_with_len 0 m)) (range_with_len a n) ≡ flat_map h (flat_map (λ k. map (λ p. k * m + p) (range_with_len 0 m)) (range_with_len a n))
rows_of h m a n =
    flat_map_equal (λ k. flat_map (λ p. h (k * m + p)) (range_with_len 0 m)) (λ k. flat_map h (map (λ p. k * m + p) (range_with_len 0 m)))
    (λ k. sym (flat_map-map h (λ p. k * m + p) (range_with_len 0 m))) (range_with_len a n)
    ∙ sym (flat_map_flat_map h (λ k. map (λ p. k * m + p) (range_with_len 0 m)) (range_with_len a n))

-- they are numbered throughout
numbered : (m n : ℕ) → flat_map (λ k. map (λ p. k * m + p) (range_with_len 0 m)) (range_with_len 0 n) ≡ range_with_len 0 (n * m)
numbered m n =
    sym (flat_map_equal (λ k. map (position_in (n ∷ m ∷ [])) (map (λ is. k ∷ is) (indices (m ∷ [])))) (λ k. map (λ p. k * m + p) (range_with_len 0 m)) each (range_with_len 0 n))
    ∙ sym (map_flat_map (position_in (n ∷ m ∷ [])) (λ k. map (λ is. k ∷ is) (indices (m ∷ []))) (range_with_len 0 n))
    ∙ places_in_order (n ∷ m ∷ [])
    ∙ ap (range_with_len 0) (one n m)
  where
    one : (n m : ℕ) → n * (m * 1) ≡ n * m
    one n m = omega arith

    alone : (ks : List ℕ) (k : ℕ) → map (position_in (n ∷ m ∷ [])) (map (λ is. k ∷ is) (flat_map (λ i. map (λ is. i ∷ is) (indices [])) ks)) ≡ map (λ p. k * m + p) ks
    alone [] k = refl
    alone (x ∷ ks) k = ap (λ y. y ∷ map (position_in (n ∷ m ∷ [])) (map (λ is. k ∷ is) (flat_map (λ i. map (λ is. i ∷ is) (indices [])) ks))) (turn k m x) ∙ ap (λ l. (k * m + x) ∷ l) (alone ks k)
      where
        turn : (k m x : ℕ) → k * (m * 1) + (x * 1 + 0) ≡ k * m + x
        turn k m x = omega arith

    each : (k : ℕ) → map (position_in (n ∷ m ∷ [])) (map (λ is. k ∷ is) (indices (m ∷ []))) ≡ map (λ p. k * m + p) (range_with_len 0 m)
    each k = alone (range_with_len 0 m) k

-- what e makes of the sources, index list by index list, is what it makes of them plane by plane
pub laid_out : {A : Type 0} (e : Option ℕ → A) (axis : ℕ) (s : List ℕ) (places : List (Option ℕ)) → axis < length s →
    map (λ i. e (source_of s axis places i)) (indices (on_axis axis (λ n. length places) s))
    ≡ planes_of e (get_or s axis 0) (size_of (drop (suc axis) s)) places (size_of (take axis s))
laid_out e axis [] places l = absurd (omega arith)
laid_out {A = A} e zero (n ∷ ns) places l =
    map_flat_map (λ i. e (source_of (n ∷ ns) 0 places i)) (λ k. map (λ is. k ∷ is) (indices ns)) (range_with_len 0 (length places))
    ∙ flat_map_equal (λ k. map (λ i. e (source_of (n ∷ ns) 0 places i)) (map (λ is. k ∷ is) (indices ns))) (λ k. block_of e (0 * n) (size_of ns) (get_or places k None))
    (λ k. map_map (λ i. e (source_of (n ∷ ns) 0 places i)) (λ is. k ∷ is) (indices ns)
    ∙ map_equal (λ is. e (source_of (n ∷ ns) 0 places (k ∷ is))) (λ is. e (option_map (λ x. (0 * n + x) * size_of ns + position_in ns is) (get_or places k None)))
    (λ is. ap e (at (get_or places k None) is)) (indices ns)
    ∙ map_by_places ns (λ q. e (option_map (λ x. (0 * n + x) * size_of ns + q) (get_or places k None))))
    (range_with_len 0 (length places))
    ∙ sym (flat_map-map (block_of e (0 * n) (size_of ns)) (λ k. get_or places k None) (range_with_len 0 (length places)))
    ∙ ap (flat_map (block_of e (0 * n) (size_of ns))) (all_read places (length places) None refl)
    ∙ sym (append-nil (plane_of e (0 * n) (size_of ns) places))
  where
    turn : (n x b q : ℕ) → x * b + q ≡ (0 * n + x) * b + q
    turn n x b q = omega arith

    at : (o : Option ℕ) (is : List ℕ) → option_map (position_in (n ∷ ns)) (option_map (λ place. place ∷ is) o) ≡ option_map (λ x. (0 * n + x) * size_of ns + position_in ns is) o
    at None is = refl
    at (Some x) is = ap (λ (q : ℕ). Some q) (turn n x (size_of ns) (position_in ns is))
laid_out {A = A} e (suc axis) (n0 ∷ ns) places l =
    map_flat_map (λ i. e (source_of (n0 ∷ ns) (suc axis) places i)) (λ k. map (λ is. k ∷ is) inner) (range_with_len 0 n0)
    ∙ flat_map_equal (λ k. map (λ i. e (source_of (n0 ∷ ns) (suc axis) places i)) (map (λ is. k ∷ is) inner)) (λ k. flat_map (λ p. plane (k * planes + p)) (range_with_len 0 planes))
    (λ k. map_map (λ i. e (source_of (n0 ∷ ns) (suc axis) places i)) (λ is. k ∷ is) inner
    ∙ map_equal (λ is. e (source_of (n0 ∷ ns) (suc axis) places (k ∷ is))) (λ is. e (option_map (λ q. k * size_of ns + q) (source_of ns axis places is)))
    (λ is. ap e (before n0 ns axis k places is)) inner
    ∙ laid_out (λ o. e (option_map (λ q. k * size_of ns + q) o)) axis ns places (omega arith)
    ∙ flat_map_equal (λ p. plane_of (λ o. e (option_map (λ q. k * size_of ns + q) o)) (p * m) b places) (λ p. plane (k * planes + p))
    (λ p. flat_map_equal (block_of (λ o. e (option_map (λ q. k * size_of ns + q) o)) (p * m) b) (block_of e ((k * planes + p) * m) b)
    (λ o. map_equal (λ j. e (option_map (λ q. k * size_of ns + q) (option_map (λ x. (p * m + x) * b + j) o))) (λ j. e (option_map (λ x. ((k * planes + p) * m + x) * b + j) o))
    (λ j. ap e (moved k p j o)) (range_with_len 0 b)) places)
    (range_with_len 0 planes))
    (range_with_len 0 n0)
    ∙ rows_of plane planes 0 n0
    ∙ ap (flat_map plane) (numbered planes n0)
  where
    inner : List (List ℕ)
    inner = indices (on_axis axis (λ n. length places) ns)

    m : ℕ
    m = get_or ns axis 0

    b : ℕ
    b = size_of (drop (suc axis) ns)

    planes : ℕ
    planes = size_of (take axis ns)

    plane : ℕ → List A
    plane p = plane_of e (p * m) b places

    ring : (k p t m b x j : ℕ) → k * (t * (m * b)) + ((p * m + x) * b + j) ≡ ((k * t + p) * m + x) * b + j
    ring k p t m b x j = omega arith

    moved : (k p j : ℕ) (o : Option ℕ) → option_map (λ q. k * size_of ns + q) (option_map (λ x. (p * m + x) * b + j) o) ≡ option_map (λ x. ((k * planes + p) * m + x) * b + j) o
    moved k p j None = refl
    moved k p j (Some x) = ap (λ (q : ℕ). Some q) (ap (λ z. k * z + ((p * m + x) * b + j)) (size_around ns axis (omega arith)) ∙ ring k p planes m b x j)

-- a block as it is read
pub block_read : {A : Type 0} (xs : List A) (start n : ℕ) (d : A) → start + n ≤ length xs → take ((start + n) - start) (drop start xs) ≡ map (λ j. get_or xs (start + j) d) (range_with_len 0 n)
block_read xs start n d h =
    fill_by_all (λ j. get_or xs (start + j) d) (take ((start + n) - start) (drop start xs)) n d (grind (arith, common_steps))
    (λ k l. get_or-take ((start + n) - start) (drop start xs) k d (omega arith) ∙ get_or-drop start xs k d)

-- a block of fills
pub block_filled : {A : Type 0} (d : A) (a n : ℕ) → replicate n d ≡ map (λ j. d) (range_with_len a n)
block_filled d a zero = refl
block_filled d a (suc n) = ap (λ l. d ∷ l) (block_filled d (a + 1) n)

-- blocks of one element
pub plane_single : {A : Type 0} (e : Option ℕ → A) (first : ℕ) (places : List (Option ℕ)) → plane_of e first 1 places ≡ map (λ o. e (option_map (λ k. first + k) o)) places
plane_single {A = A} e first [] = refl
plane_single {A = A} e first (o ∷ places) = ap (λ (x : A). x ∷ plane_of e first 1 places) (ap e (one o)) ∙ ap (λ (l : List A). e (option_map (λ k. first + k) o) ∷ l) (plane_single e first places)
  where
    turn : (f k : ℕ) → (f + k) * 1 + 0 ≡ f + k
    turn f k = omega arith

    one : (o : Option ℕ) → option_map (λ k. (first + k) * 1 + 0) o ≡ option_map (λ k. first + k) o
    one None = refl
    one (Some k) = ap (λ (n : ℕ). Some n) (turn first k)

-- the places of a plane are near
pub near_plane : (t m p : ℕ) (places : List (Option ℕ)) → p < t → t * m < 2 ^ 62 → All (IsBelow m) places → All (λ o. IsBelow (2 ^ 63) (option_map (λ k. p * m + k) o)) places
near_plane t m p places l e a = all_imply (IsBelow m) (λ o. IsBelow (2 ^ 63) (option_map (λ k. p * m + k) o)) each places a
  where
    each : (o : Option ℕ) → IsBelow m o → IsBelow (2 ^ 63) (option_map (λ k. p * m + k) o)
    each None h = tt
    each (Some k) h = let row : (p + 1) * m ≤ t * m = mul-le-mul_right m (omega arith) in omega arith

-- the places of a plane lie within the whole
pub within_plane : (t m b p n : ℕ) (places : List (Option ℕ)) → p < t → n ≡ t * (m * b) → All (IsBelow m) places → All (λ o. IsBelow (n + 1) (option_map (λ k. (p * m + k) * b + b) o)) places
within_plane t m b p n places l e a = all_imply (IsBelow m) (λ o. IsBelow (n + 1) (option_map (λ k. (p * m + k) * b + b) o)) each places a
  where
    each : (o : Option ℕ) → IsBelow m o → IsBelow (n + 1) (option_map (λ k. (p * m + k) * b + b) o)
    each None h = tt
    each (Some k) h =
        let row : (p * m + k + 1) * b ≤ ((p + 1) * m) * b = mul-le-mul_right b (omega arith) in
        let plane : (p + 1) * (m * b) ≤ t * (m * b) = mul-le-mul_right (m * b) (omega arith) in
        let turn : ((p + 1) * m) * b ≡ (p + 1) * (m * b) = omega arith in
        omega arith

pub bound-take : (s : List ℕ) (k m : ℕ) → bound_of s ≤ m → bound_of (take k s) ≤ m
bound-take s k m h = omega (arith, less s k)
  where
    less : (s : List ℕ) (k : ℕ) → bound_of (take k s) ≤ bound_of s
    less s zero = bound_of-pos s
    less [] (suc k) = omega arith
    less (n ∷ ns) (suc k) = mul-le-mul_left (max n 1) (less ns k)

pub length_small : (s : List ℕ) (k m : ℕ) → bound_of s ≤ m → get_or s k 0 ≤ m
length_small [] k m h = omega arith
length_small (n ∷ ns) zero m h = omega (arith, mul_low (max n 1) (bound_of ns) (bound_of-pos ns))
length_small (n ∷ ns) (suc k) m h = length_small ns k m (less (max n 1) (bound_of ns) m (omega arith) h)
  where
    less : (a b m : ℕ) → 1 ≤ a → a * b ≤ m → b ≤ m
    less a b m h k = let g : 1 * b ≤ a * b = mul-le-mul_right b h in omega arith

pub near_product : (a b : ℕ) → a ≤ 1000000 → b ≤ 1000000 → a * b < 2 ^ 62
near_product a b h k =
    let first : a * b ≤ 1000000 * b = mul-le-mul_right b h in
    omega arith

-- the size around an axis, as a layout has it
pub layout_size : (s : List ℕ) (axis planes len block : ℕ) → axis < length s → planes ≡ size_of (take axis s) → len ≡ get_or s axis 0 → block ≡ size_of (drop (axis + 1) s) → size_of s ≡ planes * (len * block)
layout_size s axis planes len block l e f g = rw (e, f, g, add-one) (size_around s axis l)

-- what is laid, as a layout has it
pub layout_laid : {A : Type 0} (fill : A) (xs : List A) (s : List ℕ) (axis planes len block : ℕ) (places : List (Option ℕ)) → axis < length s →
    planes ≡ size_of (take axis s) → len ≡ get_or s axis 0 → block ≡ size_of (drop (axis + 1) s) →
    planes_of (item_or fill xs) len block places planes ≡ map (λ i. item_or fill xs (source_of s axis places i)) (indices (on_axis axis (λ n. length places) s))
layout_laid fill xs s axis planes len block places l e f g =
    ap (λ n. planes_of (item_or fill xs) len block places n) e
    ∙ ap (λ n. planes_of (item_or fill xs) n block places (size_of (take axis s))) f
    ∙ ap (λ n. planes_of (item_or fill xs) (get_or s axis 0) n places (size_of (take axis s))) (g ∙ ap (λ k. size_of (drop k s)) (add-one axis))
    ∙ sym (laid_out (item_or fill xs) axis s places l)

-- what is laid of elements
pub made_laid : (items : Items) (s : List ℕ) (axis planes len block : ℕ) (places : List (Option ℕ)) → axis < length s → planes ≡ size_of (take axis s) → len ≡ get_or s axis 0 → block ≡ size_of (drop (axis + 1) s) →
    made_of (λ A d fill xs. planes_of (item_or fill xs) len block places planes) items ≡ filled items (source_of s axis places) (indices (on_axis axis (λ n. length places) s))
made_laid (Numbers zs) s axis planes len block places l e f g = ap (λ (t : List ℤ). Numbers t) (layout_laid (pos 0) zs s axis planes len block places l e f g)
made_laid (Characters cs) s axis planes len block places l e f g = ap (λ (t : List ℕ). Characters t) (layout_laid 32 cs s axis planes len block places l e f g)

-- one length changed
pub set_axis : (s : List ℕ) (axis m : ℕ) → slice_set s axis m ≡ on_axis axis (λ n. m) s
set_axis [] axis m = refl
set_axis (n ∷ ns) zero m = refl
set_axis (n ∷ ns) (suc axis) m = ap (λ l. n ∷ l) (set_axis ns axis m)

-- as many elements as index lists
pub length-filled : (items : Items) (place : List ℕ → Option ℕ) (is : List (List ℕ)) → length (cells_of (filled items place is)) ≡ length is
length-filled (Numbers zs) place is = length-map _ Num ∙ length-map is _
length-filled (Characters cs) place is = length-map _ Char ∙ length-map is _
