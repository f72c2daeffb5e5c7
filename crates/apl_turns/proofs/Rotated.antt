-- An array whose lines are turned, by index lists and by places.
use Rattle.std.proofs.Common.{◌≡◌, ◌≢◌, ℕ, ℤ, pos, suc, ◌+◌, ◌*◌, ◌%◌, ◌<◌, ◌==◌, Bool, true, false, nat_eq, cond, if◌then◌else◌, List, [], ◌∷◌, map, length, get_or, take, drop, Result, Ok, ◌⊎◌, inl, inr, ⊎_elim, Option, Some, refl, ap, sym, ◌∙◌, arith, add-one}
use Rattle.std.specs.List.{range_with_len}
use Rattle.std.proofs.lemmas.List.{length-map, get_or-map, nil_from_length}
use Rattle.std.proofs.lemmas.List.FromFn.{length-range_with_len}
use Rattle.std.proofs.lemmas.Bool.{eqb-true, eq-eqb}
use Rattle.apl_faults.specs.declared.fault.Fault.{Fault}
use Rattle.apl_faults.specs.declared.fault.Fault.TheVariants.{Rank, Length}
use Rattle.apl_arrays.specs.declared.cell.Cell.TheVariants.{Num, Char}
use Rattle.apl_arrays.specs.Index.{size_of, indices, is_within, position_in}
use Rattle.apl_arrays.specs.Axes.{without}
use Rattle.apl_arrays.specs.Cells.{Arr, Items, Numbers, Characters, cells_of}
use Rattle.apl_arrays.specs.Along.{axis_along}
use Rattle.apl_arrays.specs.declared.axis_choice.Along.{Along}
use Rattle.apl_arrays.specs.Checks.{demand, is_single, same, numbers_of}
use Rattle.apl_arrays.specs.Results.{and_then, ok_map}
use Rattle.apl_arrays.specs.Views.{picked, on_axis}
use Rattle.apl_arrays.proofs.InOrder.{map_same}
use Rattle.apl_arrays.proofs.Order.{map_by_places, all_within}
use Rattle.apl_arrays.proofs.Places.{both}
use Rattle.apl_turns.specs.Turns.{round_index, turn_at, turned_round, fits_lines, rotated}
use Rattle.apl_turns.specs.inside.Lines.{shift_at, shift_of, source, sourced, turned_lines}
use Rattle.apl_turns.proofs.Parts.{position_parts, position_on, position_without, within_at_axis, behind_below, without_below}
use Rattle.apl_turns.proofs.Rounds.{round_is}
use Rattle.apl_turns.proofs.Blocks.{source_at, source_in_at, in_plane}

-- elements at index lists are elements at places
pub each_sourced : {A : Type 0} (xs : List A) (d : A) (s : List ℕ) (place : List ℕ → ℕ) (src : ℕ → ℕ) → length xs ≡ size_of s → ((i : List ℕ) → is_within s i ≡ true → place i ≡ src (position_in s i)) →
    map (λ i. get_or xs (place i) d) (indices s) ≡ map (λ p. get_or xs (src p) d) (range_with_len 0 (length xs))
each_sourced xs d s place src e h =
    map_same (λ i. is_within s i ≡ true) (λ i. get_or xs (place i) d) (λ i. get_or xs (src (position_in s i)) d) (λ i w. ap (λ p. get_or xs p d) (h i w)) (indices s) (all_within s)
    ∙ map_by_places s (λ p. get_or xs (src p) d)
    ∙ ap (λ n. map (λ p. get_or xs (src p) d) (range_with_len 0 n)) (sym e)

picked_sourced : (items : Items) (s : List ℕ) (place : List ℕ → ℕ) (rows w : ℕ) (shifts : List ℕ) → length (cells_of items) ≡ size_of s → ((i : List ℕ) → is_within s i ≡ true → place i ≡ source rows w shifts (position_in s i)) →
    picked items place (indices s) ≡ sourced rows w shifts items
picked_sourced (Numbers zs) s place rows w shifts e h = ap (λ l. Numbers l) (each_sourced zs (pos 0) s place (source rows w shifts) (sym (length-map zs Num) ∙ e) h)
picked_sourced (Characters cs) s place rows w shifts e h = ap (λ l. Characters l) (each_sourced cs 0 s place (source rows w shifts) (sym (length-map cs Char) ∙ e) h)

-- an index list's place, and that of another index on the axis
place_of_source : (s i : List ℕ) (axis : ℕ) (shifts : List ℕ) (f : ℕ → ℕ) (line : ℕ) → is_within s i ≡ true → axis < length s → line ≡ position_in (without axis s) (without axis i) →
    f (get_or i axis 0) ≡ (get_or i axis 0 + shift_at shifts line) % get_or s axis 0 →
    position_in s (on_axis axis f i) ≡ source (get_or s axis 0) (size_of (drop (suc axis) s)) shifts (position_in s i)
place_of_source s i axis shifts f line w h e g =
    let n : ℕ = get_or s axis 0 in
    let k : ℕ = get_or i axis 0 in
    let W : ℕ = size_of (drop (suc axis) s) in
    let p : ℕ = position_in (take axis s) (take axis i) in
    let j : ℕ = position_in (drop (suc axis) s) (drop (suc axis) i) in
    moved (position_in s (on_axis axis f i)) (position_in s i) k (f k) n W p j (position_on s i axis f w h) (position_parts s i axis w h)
    ∙ ap (λ r. p * (n * W) + (r * W + j)) (g ∙ ap (λ l. (k + shift_at shifts l) % n) (e ∙ position_without s i axis w h))
    ∙ ap (λ t. p * (n * W) + t) (sym (source_in_at n W (λ l. shift_at shifts (p * W + l)) k j (behind_below s i (suc axis) w)))
    ∙ sym (source_at n W shifts p (k * W + j) (in_plane k j n W (within_at_axis s i axis w h) (behind_below s i (suc axis) w)))
    ∙ ap (source n W shifts) (flat p n W k j ∙ sym (position_parts s i axis w h))
  where
    moved : (x q k r n W p j : ℕ) → x + k * W ≡ q + r * W → q ≡ (p * n + k) * W + j → x ≡ p * (n * W) + (r * W + j)
    moved x q k r n W p j e f = omega arith

    flat : (p n W k j : ℕ) → p * (n * W) + (k * W + j) ≡ (p * n + k) * W + j
    flat p n W k j = omega arith

same_is : (s t : List ℕ) → same s t ≡ true → s ≡ t
same_is [] [] e = refl
same_is [] (n ∷ ns) e = absurd (cc)
same_is (m ∷ ms) [] e = absurd (cc)
same_is (m ∷ ms) (n ∷ ns) e = let b = both (nat_eq m n) (same ms ns) e in ap (λ l. m ∷ l) (same_is ms ns b.1) ∙ ap (λ k. k ∷ ns) (eqb-true m n b.0)

-- one element, or one for each line
pub fit_cases : (a b : Arr) (axis : ℕ) → fits_lines a b (Some axis) ≡ Ok tt → (is_single a.shape ≡ true) ⊎ ((is_single a.shape ≡ false) × (a.shape ≡ without axis b.shape))
fit_cases a b axis = cases (is_single a.shape) (length a.shape + 1 == length b.shape) a.shape (without axis b.shape)
  where
    demanded : (s t : List ℕ) (y : Bool) → y ≡ same s t → demand y Length ≡ Ok tt → s ≡ t
    demanded s t true e f = same_is s t (sym e)
    demanded s t false e f = absurd (cc)

    cases : (x y : Bool) (s t : List ℕ) → (if x then Ok tt else and_then (demand y Rank) (λ ok. demand (same s t) Length)) ≡ Ok tt → (x ≡ true) ⊎ ((x ≡ false) × (s ≡ t))
    cases true y s t e = inl refl
    cases false true s t e = inr (refl, demanded s t (same s t) refl e)
    cases false false s t e = absurd (cc)

-- so many numbers
pub fit_count : (a b : Arr) (axis n : ℕ) → fits_lines a b (Some axis) ≡ Ok tt → n ≡ size_of a.shape → n ≢ 1 → n ≡ size_of (without axis b.shape)
fit_count a b axis n h e ne = ⊎_elim (λ t. absurd (ne (e ∙ eqb-true (size_of a.shape) 1 t))) (λ p. e ∙ ap size_of p.1) (fit_cases a b axis h)

-- the shift of an index list's line
line_shift : (a b : Arr) (zs : List ℤ) (axis n : ℕ) (i : List ℕ) → fits_lines a b (Some axis) ≡ Ok tt → length zs ≡ size_of a.shape → is_within b.shape i ≡ true → axis < length b.shape →
    shift_of n (turn_at a zs axis i) ≡ shift_at (map (shift_of n) zs) (position_in (without axis b.shape) (without axis i))
line_shift a b zs axis n i f e w h = ⊎_elim one many (fit_cases a b axis f)
  where
    one : is_single a.shape ≡ true → shift_of n (turn_at a zs axis i) ≡ shift_at (map (shift_of n) zs) (position_in (without axis b.shape) (without axis i))
    one t =
        let l : length zs ≡ 1 = e ∙ eqb-true (size_of a.shape) 1 t in
        ap (λ (x : Bool). shift_of n (get_or zs (cond x 0 (position_in a.shape (without axis i))) (pos 0))) t
        ∙ sym (get_or-map (shift_of n) zs 0 (pos 0) 0 (omega arith))
        ∙ ap (λ (x : Bool). get_or (map (shift_of n) zs) (cond x 0 (position_in (without axis b.shape) (without axis i))) 0) (sym (eq-eqb (length (map (shift_of n) zs)) 1 (length-map zs (shift_of n) ∙ l)))

    many : (is_single a.shape ≡ false) × (a.shape ≡ without axis b.shape) → shift_of n (turn_at a zs axis i) ≡ shift_at (map (shift_of n) zs) (position_in (without axis b.shape) (without axis i))
    many p =
        let below : position_in (without axis b.shape) (without axis i) < length zs = omega (arith, without_below b.shape i axis w h, e, ap size_of p.1) in
        ap (λ (x : Bool). shift_of n (get_or zs (cond x 0 (position_in a.shape (without axis i))) (pos 0))) p.0
        ∙ ap (λ s. shift_of n (get_or zs (position_in s (without axis i)) (pos 0))) p.1
        ∙ sym (get_or-map (shift_of n) zs (position_in (without axis b.shape) (without axis i)) (pos 0) 0 below)
        ∙ ap (λ (x : Bool). get_or (map (shift_of n) zs) (cond x 0 (position_in (without axis b.shape) (without axis i))) 0)
        (sym (ap (λ m. m == 1) (length-map zs (shift_of n) ∙ e) ∙ p.0))

-- the definition by index lists is that by places
pub turned_by_lines : (a b : Arr) (zs : List ℤ) (axis : ℕ) → axis < length b.shape → length (cells_of b.items) ≡ size_of b.shape → fits_lines a b (Some axis) ≡ Ok tt → length zs ≡ size_of a.shape →
    turned_round a b zs (Some axis) ≡ turned_lines axis zs b
turned_by_lines a b zs axis h full f e =
    ap (λ (t : Items). record { shape = b.shape; items = t })
    (picked_sourced b.items b.shape (λ i. position_in b.shape (on_axis axis (round_index (get_or b.shape axis 0) (turn_at a zs axis i)) i)) (get_or b.shape axis 0) (size_of (drop (suc axis) b.shape)) (map (shift_of (get_or b.shape axis 0)) zs) full
    (λ i w.
    place_of_source b.shape i axis (map (shift_of (get_or b.shape axis 0)) zs) (round_index (get_or b.shape axis 0) (turn_at a zs axis i)) (position_in (without axis b.shape) (without axis i)) w h refl
    (round_is (get_or b.shape axis 0) (turn_at a zs axis i) (get_or i axis 0) (above (get_or i axis 0) (get_or b.shape axis 0) (within_at_axis b.shape i axis w h))
    ∙ ap (λ k. (get_or i axis 0 + k) % get_or b.shape axis 0) (line_shift a b zs axis (get_or b.shape axis 0) i f e w h)))
    ∙ ap (λ m. sourced (get_or b.shape axis 0) (size_of (drop m b.shape)) (map (shift_of (get_or b.shape axis 0)) zs) b.items) (sym (add-one axis)))
  where
    above : (k n : ℕ) → k < n → 0 < n
    above k n h = omega arith

-- as many elements as before
pub length-sourced : (rows w : ℕ) (shifts : List ℕ) (items : Items) → length (cells_of (sourced rows w shifts items)) ≡ length (cells_of items)
length-sourced rows w shifts (Numbers zs) =
    length-map (map (λ place. get_or zs (source rows w shifts place) (pos 0)) (range_with_len 0 (length zs))) Num
    ∙ length-map (range_with_len 0 (length zs)) (λ place. get_or zs (source rows w shifts place) (pos 0)) ∙ length-range_with_len 0 (length zs) ∙ sym (length-map zs Num)
length-sourced rows w shifts (Characters cs) =
    length-map (map (λ place. get_or cs (source rows w shifts place) 0) (range_with_len 0 (length cs))) Char
    ∙ length-map (range_with_len 0 (length cs)) (λ place. get_or cs (source rows w shifts place) 0) ∙ length-range_with_len 0 (length cs) ∙ sym (length-map cs Char)

sourced_none : (rows w : ℕ) (shifts : List ℕ) (items : Items) → length (cells_of items) ≡ 0 → items ≡ sourced rows w shifts items
sourced_none rows w shifts (Numbers zs) e =
    let n : zs ≡ [] = nil_from_length zs (sym (length-map zs Num) ∙ e) in
    ap (λ l. Numbers l) (n ∙ sym (ap (λ (l : List ℤ). map (λ place. get_or l (source rows w shifts place) (pos 0)) (range_with_len 0 (length l))) n))
sourced_none rows w shifts (Characters cs) e =
    let n : cs ≡ [] = nil_from_length cs (sym (length-map cs Char) ∙ e) in
    ap (λ l. Characters l) (n ∙ sym (ap (λ (l : List ℕ). map (λ place. get_or l (source rows w shifts place) 0) (range_with_len 0 (length l))) n))

-- an empty array stays
pub turned_none : (axis : ℕ) (zs : List ℤ) (b : Arr) → length (cells_of b.items) ≡ 0 → b ≡ turned_lines axis zs b
turned_none axis zs b e =
    ap (λ (t : Items). record { shape = b.shape; items = t }) (sourced_none (get_or b.shape axis 0) (size_of (drop (axis + 1) b.shape)) (map (shift_of (get_or b.shape axis 0)) zs) b.items e)

pub count_of_numbers : (items : Items) (zs : List ℤ) → numbers_of items ≡ Ok zs → length zs ≡ length (cells_of items)
count_of_numbers (Numbers ys) zs e = let s : zs ≡ ys = cc in ap length s ∙ sym (length-map ys Num)
count_of_numbers (Characters []) zs e = let s : zs ≡ [] = cc in ap length s
count_of_numbers (Characters (c ∷ cs)) zs e = absurd (cc)

-- the parts of a rotation
pub rotated_by : (along : Along) (origin : ℕ) (a b r : Arr) (axis : Option ℕ) (zs : List ℤ) → axis_along along (length b.shape) origin ≡ Ok axis → fits_lines a b axis ≡ Ok tt → numbers_of a.items ≡ Ok zs → turned_round a b zs axis ≡ r →
    rotated along origin a b ≡ Ok r
rotated_by along origin a b r axis zs e f g h =
    ap (λ (x : Result (Option ℕ) Fault). and_then x (λ axis. and_then (fits_lines a b axis) (λ ok. ok_map (λ zs. turned_round a b zs axis) (numbers_of a.items)))) e
    ∙ ap (λ (x : Result (Unit {0}) Fault). and_then x (λ ok. ok_map (λ zs. turned_round a b zs axis) (numbers_of a.items))) f
    ∙ ap (λ (x : Result (List ℤ) Fault). ok_map (λ zs. turned_round a b zs axis) x) g
    ∙ ap (λ (x : Arr). Ok x) h
