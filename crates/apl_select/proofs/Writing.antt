-- Writes to places one after another, as loops have them, and what they make of an array.
use Rattle.std.proofs.Common.{◌≡◌, ℕ, ℤ, pos, zero, suc, ◌+◌, ◌<◌, ◌≤◌, Bool, true, false, cond, List, map, set, length, get_or, refl, ap, sym, ◌∙◌, arith, add-one, subst, Option, None, Some, get_or-set_same, get_or-set_other}
use Rattle.std.specs.Prelude.{nat_eq}
use Rattle.std.specs.Option.{option_map}
use Rattle.std.specs.List.{range_with_len, All}
use Rattle.std.proofs.lemmas.Bool.{eqb-true, eqb-false}
use Rattle.std.proofs.lemmas.Grind.{common_steps}
use Rattle.std.proofs.lemmas.List.{get_or_read, length-map}
use Rattle.std.proofs.lemmas.List.Elements.{All-get_or}
use Rattle.std.proofs.lemmas.List.FromFn.{fill_by_all, length-range_with_len}
use Rattle.apl_arrays.specs.declared.cell.Cell.TheVariants.{Num, Char}
use Rattle.apl_arrays.specs.Index.{size_of, indices, position_in}
use Rattle.apl_arrays.specs.Cells.{Arr, Items, Numbers, Characters, cells_of}
use Rattle.apl_arrays.specs.Written.{serving, with_items, with_elements, AreEnough}
use Rattle.apl_arrays.proofs.Order.{length-indices}
use Rattle.apl_arrays.proofs.InPlace.{length-with_items}
use Rattle.apl_select.specs.Lined.{place_served, item_or}
use Rattle.apl_select.specs.Indexing.{Places, joined_shape, led_to}
use Rattle.apl_select.specs.Assignment.{either_of, last_where, last_to, overlaid, overlaid_items, written}
use Rattle.apl_select.specs.inside.Reached.{led, AreOnAxes}
use Rattle.apl_select.specs.inside.Written.{put_at, put_all, put_items, overwritten}
use Rattle.apl_select.proofs.Lists.{range_more}
use Rattle.apl_select.proofs.Reaching.{led_below}
use Rattle.apl_select.proofs.Overlay.{last_where_more, overlaid_put}

-- one write more
put_more : {A : Type 0} (xs ys : List A) (places : List ℕ) (k q : ℕ) (d : A) →
    put_at xs ys places (k + 1) q d ≡ cond (nat_eq (get_or places k 0) q) (get_or ys (place_served (length ys) k) (get_or xs q d)) (put_at xs ys places k q d)
put_more {A = A} xs ys places k q d =
    ap (λ (n : ℕ). stands (last_where test (range_with_len 0 n))) (add-one k)
    ∙ ap (λ (l : List ℕ). stands (last_where test l)) (range_more 0 k)
    ∙ ap stands (last_where_more test (range_with_len 0 k) (0 + k))
    ∙ ap (λ (j : ℕ). stands (either_of (cond (test j) (Some j) None) (last_where test (range_with_len 0 k)))) (none k)
    ∙ each (test k)
  where
    test : ℕ → Bool
    test k = nat_eq (get_or places k 0) q

    stands : Option ℕ → A
    stands o = item_or (get_or xs q d) ys (option_map (place_served (length ys)) o)

    none : (k : ℕ) → 0 + k ≡ k
    none k = omega arith

    each : (b : Bool) → stands (either_of (cond b (Some k) None) (last_where test (range_with_len 0 k))) ≡ cond b (get_or ys (place_served (length ys) k) (get_or xs q d)) (stands (last_where test (range_with_len 0 k)))
    each true = refl
    each false = refl

-- what stands at q after it
pub put_step : {A : Type 0} (xs ys out : List A) (places : List ℕ) (k j : ℕ) (v : A) (q : ℕ) (d : A) → get_or places k 0 < length out → j ≡ place_served (length ys) k → j < length ys → v ≡ get_or ys j v →
    get_or out q d ≡ put_at xs ys places k q d → get_or (set out (get_or places k 0) v) q d ≡ put_at xs ys places (k + 1) q d
put_step {A = A} xs ys out places k j v q d l e m r h =
    each (nat_eq (get_or places k 0) q) (λ t. eqb-true (get_or places k 0) q t) (λ t. eqb-false (get_or places k 0) q t) ∙ sym (put_more xs ys places k q d)
  where
    read : v ≡ get_or ys (place_served (length ys) k) (get_or xs q d)
    read = get_or_read ys j v m r (get_or xs q d) ∙ ap (λ (i : ℕ). get_or ys i (get_or xs q d)) e

    each : (b : Bool) → (b ≡ true → get_or places k 0 ≡ q) → (b ≡ false → get_or places k 0 ≡ q → ⊥) →
        get_or (set out (get_or places k 0) v) q d ≡ cond b (get_or ys (place_served (length ys) k) (get_or xs q d)) (put_at xs ys places k q d)
    each true f g = ap (λ (i : ℕ). get_or (set out (get_or places k 0) v) i d) (sym (f refl)) ∙ get_or-set_same out (get_or places k 0) v d l ∙ read
    each false f g = get_or-set_other out (get_or places k 0) q v d (λ s. g refl (sym s)) ∙ h

-- what stands after all writes
pub put_whole : {A : Type 0} (d : A) (xs ys out : List A) (places : List ℕ) (k : ℕ) → length out ≡ length xs → k ≡ length places → ((q : ℕ) → get_or out q d ≡ put_at xs ys places k q d) →
    out ≡ put_all d xs ys places
put_whole d xs ys out places k long e h =
    fill_by_all (λ q. put_at xs ys places (length places) q d) out (length xs) d long (λ q l. h q ∙ ap (λ (n : ℕ). put_at xs ys places n q d) e)

length-put_all : {A : Type 0} (d : A) (xs ys : List A) (places : List ℕ) → length (put_all d xs ys places) ≡ length xs
length-put_all d xs ys places = length-map (range_with_len 0 (length xs)) (λ q. put_at xs ys places (length places) q d) ∙ length-range_with_len 0 (length xs)

length-led : (shape : List ℕ) (ps : List Places) → length (led shape ps) ≡ size_of (joined_shape ps)
length-led shape ps = length-map (indices (joined_shape ps)) (λ i. position_in shape (led_to ps i)) ∙ length-indices (joined_shape ps)

-- writes to all places to which picks lead
put_led : {A : Type 0} (d : A) (xs ys : List A) (shape : List ℕ) (ps : List Places) (places : List ℕ) → AreOnAxes shape ps → length xs ≡ size_of shape → places ≡ led shape ps →
    put_all d xs ys places ≡ overlaid d xs ys shape (last_to ps)
put_led d xs ys shape ps places f full e =
    ap (λ (l : List ℕ). put_all d xs ys l) e
    ∙ ap (λ (n : ℕ). map (λ q. put_at xs ys (led shape ps) n q d) (range_with_len 0 (length xs))) (length-led shape ps)
    ∙ ap (λ (n : ℕ). map (λ q. put_at xs ys (led shape ps) (size_of (joined_shape ps)) q d) (range_with_len 0 n)) full
    ∙ sym (overlaid_put d xs ys shape ps f)

put_items_led : (v b : Items) (shape : List ℕ) (ps : List Places) (places : List ℕ) → AreOnAxes shape ps → length (cells_of v) ≡ size_of shape → places ≡ led shape ps →
    put_items v b places ≡ overlaid_items v b shape (last_to ps)
put_items_led (Numbers xs) (Numbers ys) shape ps places f full e = ap (λ (zs : List ℤ). Numbers zs) (put_led (pos 0) xs ys shape ps places f (sym (length-map xs Num) ∙ full) e)
put_items_led (Numbers xs) (Characters ys) shape ps places f full e = refl
put_items_led (Characters xs) (Numbers ys) shape ps places f full e = refl
put_items_led (Characters xs) (Characters ys) shape ps places f full e = ap (λ (cs : List ℕ). Characters cs) (put_led 0 xs ys shape ps places f (sym (length-map xs Char) ∙ full) e)

-- writes one after another as what stands at each place
with_so_far : {A : Type 0} (d : A) (xs ys : List A) (places : List ℕ) → All (λ q. q < length xs) places → AreEnough (length ys) (length places) → (k : ℕ) → k ≤ length places → (q : ℕ) →
    get_or (with_items d xs places ys k) q d ≡ put_at xs ys places k q d
with_so_far d xs ys places w f zero l q = refl
with_so_far d xs ys places w f (suc k) l q =
    put_step xs ys (with_items d xs places ys k) places k (serving (length ys) k) (get_or ys (serving (length ys) k) d) q d
    (omega (arith, length-with_items d xs places ys k, All-get_or (λ q. q < length xs) places k 0 (omega arith) w)) refl (f k (omega arith))
    (same ys (serving (length ys) k) d (f k (omega arith)))
    (with_so_far d xs ys places w f k (omega arith) q)
    ∙ ap (λ (n : ℕ). put_at xs ys places n q d) (add-one k)
  where
    same : {A : Type 0} (xs : List A) (i : ℕ) (d : A) → i < length xs → get_or xs i d ≡ get_or xs i (get_or xs i d)
    same xs i d h = grind (arith, common_steps)

put_is_with : {A : Type 0} (d : A) (xs ys : List A) (places : List ℕ) → All (λ q. q < length xs) places → AreEnough (length ys) (length places) → with_items d xs places ys (length places) ≡ put_all d xs ys places
put_is_with d xs ys places w f =
    put_whole d xs ys (with_items d xs places ys (length places)) places (length places) (length-with_items d xs places ys (length places)) refl
    (with_so_far d xs ys places w f (length places) (omega arith))

pub with_is_put : (to from : Items) (places : List ℕ) → All (λ q. q < length (cells_of to)) places → AreEnough (length (cells_of from)) (length places) → with_elements to places from ≡ put_items to from places
with_is_put (Numbers xs) (Numbers ys) places w f =
    let P : ℕ → Type 0 = λ n. All (λ q. q < n) places in
    let Q : ℕ → Type 0 = λ n. AreEnough n (length places) in
    ap (λ (zs : List ℤ). Numbers zs) (put_is_with (pos 0) xs ys places (subst P (length-map xs Num) w) (subst Q (length-map ys Num) f))
with_is_put (Numbers xs) (Characters ys) places w f = refl
with_is_put (Characters xs) (Numbers ys) places w f = refl
with_is_put (Characters xs) (Characters ys) places w f =
    let P : ℕ → Type 0 = λ n. All (λ q. q < n) places in
    let Q : ℕ → Type 0 = λ n. AreEnough n (length places) in
    ap (λ (cs : List ℕ). Characters cs) (put_is_with 0 xs ys places (subst P (length-map xs Char) w) (subst Q (length-map ys Char) f))

pub put_along : (to from ravel sent new : Items) (places : List ℕ) → All (λ q. q < length (cells_of to)) places → AreEnough (length (cells_of from)) (length places) → ravel ≡ to → sent ≡ from →
    new ≡ with_elements ravel places sent → new ≡ put_items to from places
put_along to from ravel sent new places w f r s e =
    e ∙ ap (λ (t : Items). with_elements t places sent) r ∙ ap (λ (t : Items). with_elements to places t) s ∙ with_is_put to from places w f

-- as many elements as before
pub length-put_items : (to from : Items) (places : List ℕ) → length (cells_of (put_items to from places)) ≡ length (cells_of to)
length-put_items (Numbers xs) (Numbers ys) places = length-map (put_all (pos 0) xs ys places) Num ∙ length-put_all (pos 0) xs ys places ∙ sym (length-map xs Num)
length-put_items (Numbers xs) (Characters ys) places = refl
length-put_items (Characters xs) (Numbers ys) places = refl
length-put_items (Characters xs) (Characters ys) places = length-map (put_all 0 xs ys places) Char ∙ length-put_all 0 xs ys places ∙ sym (length-map xs Char)

-- the array that they make
pub written_is : (v b : Arr) (ps : List Places) (places : List ℕ) → AreOnAxes v.shape ps → length (cells_of v.items) ≡ size_of v.shape → places ≡ led v.shape ps → written v ps b ≡ overwritten v b places
written_is v b ps places f full p = sym (ap (λ (t : Items). record { shape = v.shape; items = t }) (put_items_led v.items b.items v.shape ps places f full p))

-- the places to which picks lead lie within, and are so many
pub led_inside : (shape : List ℕ) (ps : List Places) (places : List ℕ) (n : ℕ) → AreOnAxes shape ps → places ≡ led shape ps → n ≡ size_of shape → All (λ q. q < n) places
led_inside shape ps places n f e h =
    let P : List ℕ → Type 0 = λ l. All (λ q. q < n) l in
    let Q : ℕ → Type 0 = λ m. All (λ q. q < m) (led shape ps) in
    subst P (sym e) (subst Q (sym h) (led_below shape ps f))

pub enough_led : (shape : List ℕ) (ps : List Places) (places : List ℕ) (n : ℕ) → places ≡ led shape ps → AreEnough n (size_of (joined_shape ps)) → AreEnough n (length places)
enough_led shape ps places n e h =
    let Q : ℕ → Type 0 = λ k. AreEnough n k in
    subst Q (sym (ap length e ∙ length-led shape ps)) h
