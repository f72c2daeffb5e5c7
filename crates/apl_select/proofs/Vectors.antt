-- Elements of a vector at the places that numbers count.
use Rattle.std.proofs.Common.{◌≡◌, ℕ, ℤ, pos, ◌+◌, ◌*◌, ◌<◌, ◌≤◌, ◌&&◌, Bool, nat_le, List, [], ◌∷◌, map, length, get_or, ◌++◌, refl, ap, sym, ◌∙◌, arith, append-nil, ⊎_elim, Some, Result, Ok, Err}
use Rattle.std.proofs.lemmas.Bool.{cases_lt, le-leb}
use Rattle.std.proofs.lemmas.List.{get_or_append_left, get_or_push, length-map, map-id}
use Rattle.apl_faults.specs.declared.fault.Fault.{Fault}
use Rattle.apl_faults.specs.declared.fault.Fault.TheVariants.{Limit}
use Rattle.apl_arrays.specs.declared.cell.Cell.TheVariants.{Num, Char}
use Rattle.apl_arrays.specs.Cells.{Arr, Items, Numbers, Characters, cells_of}
use Rattle.apl_arrays.specs.Checks.{demand, limited, numbers_of}
use Rattle.apl_arrays.specs.Index.{bound_of, size_of}
use Rattle.apl_arrays.specs.Results.{all_ok, and_then, ok_map}
use Rattle.apl_arrays.specs.Views.{selected}
use Rattle.apl_arrays.proofs.InTurn.{length-all_ok, turns_start, turns_whole}
use Rattle.apl_select.specs.Indexing.{Places, indexed, items_led_to, joined_shape, led_to, picked_by, place_numbered}
use Rattle.apl_select.specs.inside.Numbered.{at_places, item_numbered}
use Rattle.apl_select.specs.inside.Reached.{reached, AreOnAxes}
use Rattle.apl_select.proofs.Indexes.{index_shaped}
use Rattle.apl_select.proofs.Lists.{map_equal}
use Rattle.apl_select.proofs.Picking.{by_number, numbers_length, places_below}
use Rattle.apl_select.proofs.Reaching.{read_led}

-- a value for each number
pub all_numbered : {A : Type 0} (f : ℤ → Result A Fault) (d : A) (zs : List ℤ) (ys : List A) (n : ℕ) → length ys ≡ n → n ≤ length zs → length zs ≤ n →
    ((j : ℕ) → j < n → f (get_or zs j (pos 0)) ≡ Ok (get_or ys j d)) → all_ok f zs ≡ Ok ys
all_numbered {A = A} f d zs ys n e g h each =
    let F : ℕ → Result A Fault = λ k. f (get_or zs k (pos 0)) in
    sym (by_number f zs)
    ∙ sym (turns_start F [] (length zs) refl)
    ∙ turns_whole F d ys [] 0 (length zs) (omega arith) (omega arith) (λ j l. ap F (from_none j) ∙ each j (omega arith))
  where
    from_none : (j : ℕ) → 0 + j ≡ j
    from_none j = omega arith

-- a value more
pub one_numbered : {A : Type 0} (f : A → ℤ → Result A Fault) (zs : List ℤ) (ys new : List A) (k : ℕ) (y : A) → length ys ≡ k → new ≡ ys ++ y ∷ [] →
    ((j : ℕ) (d : A) → j < k → f d (get_or zs j (pos 0)) ≡ Ok (get_or ys j d)) → ((d : A) → f d (get_or zs k (pos 0)) ≡ Ok y) →
    (j : ℕ) (d : A) → j < k + 1 → f d (get_or zs j (pos 0)) ≡ Ok (get_or new j d)
one_numbered {A = A} f zs ys new k y e h each last j d l = ⊎_elim before at (cases_lt j k)
  where
    ok : List A → Result A Fault
    ok ts = Ok (get_or ts j d)

    before : j < k → f d (get_or zs j (pos 0)) ≡ Ok (get_or new j d)
    before b = each j d b ∙ ap (λ (t : A). Ok t) (sym (get_or_append_left ys (y ∷ []) d j (omega (arith, e)))) ∙ ap ok (sym h)

    at : k ≤ j → f d (get_or zs j (pos 0)) ≡ Ok (get_or new j d)
    at b =
        let same : j ≡ k = omega arith in
        ap (λ (i : ℕ). f d (get_or zs i (pos 0))) same ∙ last d ∙ ap (λ (t : A). Ok t) (sym (get_or_push ys y d j (e ∙ sym same))) ∙ ap ok (sym h)

-- what is read of each is what is read at all their places
mapped : {A B C : Type 0} (f : B → C) (g : A → Result B Fault) (xs : List A) → all_ok (λ x. ok_map f (g x)) xs ≡ ok_map (map f) (all_ok g xs)
mapped f g [] = refl
mapped {A = A} {B = B} {C = C} f g (x ∷ xs) =
    ap (λ (q : Result (List C) Fault). and_then (ok_map f (g x)) (λ y. ok_map (λ ys. y ∷ ys) q)) (mapped f g xs) ∙ at (g x) (all_ok g xs)
  where
    at : (p : Result B Fault) (q : Result (List B) Fault) →
        and_then (ok_map f p) (λ y. ok_map (λ ys. y ∷ ys) (ok_map (map f) q)) ≡ ok_map (map f) (and_then p (λ y. ok_map (λ ys. y ∷ ys) q))
    at (Ok y) (Ok ys) = refl
    at (Ok y) (Err e) = refl
    at (Err e) q = refl

pub numbers_read : (xs : List ℤ) (origin : ℕ) (zs : List ℤ) (ys : List ℤ) → all_ok (item_numbered xs origin (pos 0)) zs ≡ Ok ys →
    ok_map (at_places (Numbers xs)) (all_ok (place_numbered (length (cells_of (Numbers xs))) origin) zs) ≡ Ok (Numbers ys)
numbers_read xs origin zs ys e =
    ap (λ (n : ℕ). ok_map (at_places (Numbers xs)) (all_ok (place_numbered n origin) zs)) (length-map xs Num)
    ∙ at (all_ok (place_numbered (length xs) origin) zs) (sym (mapped (λ p. get_or xs p (pos 0)) (place_numbered (length xs) origin) zs) ∙ e)
  where
    at : (r : Result (List ℕ) Fault) → ok_map (map (λ p. get_or xs p (pos 0))) r ≡ Ok ys → ok_map (at_places (Numbers xs)) r ≡ Ok (Numbers ys)
    at (Ok ps) h = ap (ok_map (λ (l : List ℤ). Numbers l)) h
    at (Err e) h = absurd (cc)

pub characters_read : (xs : List ℕ) (origin : ℕ) (zs : List ℤ) (ys : List ℕ) → all_ok (item_numbered xs origin 0) zs ≡ Ok ys →
    ok_map (at_places (Characters xs)) (all_ok (place_numbered (length (cells_of (Characters xs))) origin) zs) ≡ Ok (Characters ys)
characters_read xs origin zs ys e =
    ap (λ (n : ℕ). ok_map (at_places (Characters xs)) (all_ok (place_numbered n origin) zs)) (length-map xs Char)
    ∙ at (all_ok (place_numbered (length xs) origin) zs) (sym (mapped (λ p. get_or xs p 0) (place_numbered (length xs) origin) zs) ∙ e)
  where
    at : (r : Result (List ℕ) Fault) → ok_map (map (λ p. get_or xs p 0)) r ≡ Ok ys → ok_map (at_places (Characters xs)) r ≡ Ok (Characters ys)
    at (Ok ps) h = ap (ok_map (λ (l : List ℕ). Characters l)) h
    at (Err e) h = absurd (cc)

-- the only slot of a vector reaches its places
reached_alone : (n : ℕ) (p : Places) → reached (0 ∷ []) (n ∷ []) (p ∷ []) ≡ p.places
reached_alone n p = append-nil (map (λ k. 0 * n + k) p.places) ∙ map_equal (λ k. 0 * n + k) (λ k. k) (λ k. none n k) p.places ∙ map-id p.places
  where
    none : (n k : ℕ) → 0 * n + k ≡ k
    none n k = omega arith

led_alone : (items : Items) (n : ℕ) (p : Places) → AreOnAxes (n ∷ []) (p ∷ []) → at_places items p.places ≡ items_led_to items (n ∷ []) (p ∷ [])
led_alone (Numbers xs) n p f = ap (λ l. Numbers l) (ap (map (λ q. get_or xs q (pos 0))) (sym (reached_alone n p)) ∙ read_led xs (pos 0) (n ∷ []) (p ∷ []) f)
led_alone (Characters xs) n p f = ap (λ l. Characters l) (ap (map (λ q. get_or xs q 0)) (sym (reached_alone n p)) ∙ read_led xs 0 (n ∷ []) (p ∷ []) f)

length-at : (items : Items) (ps : List ℕ) → length (cells_of (at_places items ps)) ≡ length ps
length-at (Numbers xs) ps = length-map _ Num ∙ length-map ps _
length-at (Characters xs) ps = length-map _ Char ∙ length-map ps _

-- there are as many elements as numbers
pub length-read : (items : Items) (n origin : ℕ) (zs : List ℤ) (read : Items) → ok_map (at_places items) (all_ok (place_numbered n origin) zs) ≡ Ok read → length (cells_of read) ≡ length zs
length-read items n origin zs read e = at (all_ok (place_numbered n origin) zs) (λ ps h. length-all_ok (place_numbered n origin) zs ps h) e
  where
    at : (r : Result (List ℕ) Fault) → ((ps : List ℕ) → r ≡ Ok ps → length ps ≡ length zs) → ok_map (at_places items) r ≡ Ok read → length (cells_of read) ≡ length zs
    at (Ok ps) f h = let s : at_places items ps ≡ read = cc in sym (ap (λ (t : Items). length (cells_of t)) s) ∙ length-at items ps ∙ f ps refl
    at (Err x) f h = absurd (cc)

within_limits : (s : List ℕ) → length s ≤ 8 → bound_of s ≤ 1000000 → limited s ≡ Ok s
within_limits s h g =
    ap (λ (b : Bool). ok_map (λ u. s) (demand b Limit)) (ap (λ (b : Bool). b && nat_le (bound_of s) 1000000) (le-leb (length s) 8 h) ∙ le-leb (bound_of s) 1000000 g)

-- indexing a vector by an array of numbers
pub vector_indexed : (b a : Arr) (origin : ℕ) (zs : List ℤ) (read : Items) (r : Arr) → length b.shape ≡ 1 → length (cells_of b.items) ≡ size_of b.shape →
    length (cells_of a.items) ≡ size_of a.shape → length a.shape ≤ 8 → bound_of a.shape ≤ 1000000 → numbers_of a.items ≡ Ok zs →
    ok_map (at_places b.items) (all_ok (place_numbered (length (cells_of b.items)) origin) zs) ≡ Ok read → r ≡ record { shape = a.shape; items = read } → indexed b (Some a ∷ []) origin ≡ Ok r
vector_indexed b a origin zs read r one full whole few small numbers e h = by b.shape one full
  where
    at : (n : ℕ) (q : Result (List ℕ) Fault) → length (cells_of b.items) ≡ n → all_ok (place_numbered n origin) zs ≡ q → ok_map (at_places b.items) q ≡ Ok read →
        indexed (record { shape = n ∷ []; items = b.items }) (Some a ∷ []) origin ≡ Ok r
    at n (Err x) f g k = absurd (cc)
    at n (Ok ps) f g k =
        let p : Places = record { shape = a.shape; places = ps } in
        let V : Arr = record { shape = n ∷ []; items = b.items } in
        let same : at_places b.items ps ≡ read = cc in
        let picks : picked_by n origin (Some a) ≡ Ok p = ap (λ (m : Result (List ℤ) Fault). and_then m (λ zs. ok_map (λ ps. record { shape = a.shape; places = ps }) (all_ok (place_numbered n origin) zs))) numbers ∙ ap (ok_map (λ ps. record { shape = a.shape; places = ps })) g in
        let on_axes : AreOnAxes (n ∷ []) (p ∷ []) = (length-all_ok (place_numbered n origin) zs ps g ∙ numbers_length a.items zs numbers ∙ whole, places_below n origin zs ps g, tt) in
        ap (λ (m : Result Places Fault). and_then (and_then m (λ p. Ok (p ∷ []))) (λ ps. ok_map (λ shape. selected V shape (led_to ps)) (limited (joined_shape ps)))) picks
        ∙ index_shaped V (p ∷ []) a.shape read r (sym (append-nil a.shape)) (sym same ∙ led_alone b.items n p on_axes) (within_limits a.shape few small) h

    product : (n : ℕ) → n * 1 ≡ n
    product n = omega arith

    by : (s : List ℕ) → length s ≡ 1 → length (cells_of b.items) ≡ size_of s → indexed (record { shape = s; items = b.items }) (Some a ∷ []) origin ≡ Ok r
    by [] l f = absurd (omega arith)
    by (n ∷ []) l f =
        let count : length (cells_of b.items) ≡ n = f ∙ product n in
        at n (all_ok (place_numbered n origin) zs) count refl (ap (λ (m : ℕ). ok_map (at_places b.items) (all_ok (place_numbered m origin) zs)) (sym count) ∙ e)
    by (n ∷ m ∷ s) l f = absurd (omega arith)
