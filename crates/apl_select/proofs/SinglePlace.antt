-- What slots of one number each pick.
use Rattle.std.proofs.Common.{zero, suc, ◌≡◌, ℕ, ℤ, pos, negsuc, ◌+◌, ◌-◌, ◌*◌, ◌<◌, ◌≤◌, ◌&&◌, Bool, true, false, nat_le, nat_lt, cond, List, [], ◌∷◌, map, set, length, get_or, drop, refl, ap, sym, ◌∙◌, arith, rules, subst, Option, None, Some, Result, Ok, Err}
use Rattle.std.specs.Prelude.{slice_get, slice_set, FitsSigned, IsSome, IsTrue, MatchBool, MatchOption}
use Rattle.std.specs.Int.{w64}
use Rattle.std.specs.List.{list_all}
use Rattle.std.specs.Option.{is_some, option_and_then}
use Rattle.std.specs.Result.{result_ok}
use Rattle.std.proofs.lemmas.Bool.{eq-eqb, lt-ltb, ne_eqb}
use Rattle.std.proofs.lemmas.List.{length-map}
use Rattle.std.proofs.lemmas.List.Elements.{All-nil, All-cons, All-get_or}
use Rattle.std.proofs.Math.ListN.{length-set}
use Rattle.apl_faults.specs.declared.fault.Fault.{Fault}
use Rattle.apl_faults.specs.declared.fault.Fault.TheVariants.{Index, Rank}
use Rattle.apl_arrays.specs.declared.cell.Cell.{Cell}
use Rattle.apl_arrays.specs.declared.cell.Cell.TheVariants.{Num, Char}
use Rattle.apl_arrays.specs.declared.stop.Stop.{Stop}
use Rattle.apl_arrays.specs.Answers.{FaultsFirst}
use Rattle.apl_arrays.specs.Cells.{Arr, AreStorable, Items, Numbers, Characters, cells_of}
use Rattle.apl_arrays.specs.Checks.{demand, limited}
use Rattle.apl_arrays.specs.Index.{indices, is_within, position_in, size_of}
use Rattle.apl_arrays.specs.Kinds.{are_numbers}
use Rattle.apl_arrays.specs.Results.{and_then, ok_map}
use Rattle.apl_arrays.specs.Simple.{lone_number, number_of_scalar, single}
use Rattle.apl_arrays.specs.Views.{picked, selected}
use Rattle.apl_arrays.specs.Written.{number_written, with_number}
use Rattle.apl_arrays.proofs.Scalars.{number_alone}
use Rattle.apl_arrays.proofs.Places.{both, position_in-lt, rest_of, within_head}
use Rattle.apl_select.specs.Assignment.{assigned, assigned_at, typed, written}
use Rattle.apl_select.specs.Indexing.{AreNumbers, Places, all_picked, indexed, joined_shape, led_to, picked_by, place_numbered}
use Rattle.apl_select.specs.inside.Reached.{led, AreOnAxes}
use Rattle.apl_select.specs.inside.Single.{counted_by, fault_of_numbers, holds_number, placed, one_each, PicksNone, PicksPlace}
use Rattle.apl_select.specs.inside.Written.{overwritten, put_all, put_items}
use Rattle.apl_select.proofs.Lists.{rest_from}
use Rattle.apl_select.proofs.Picking.{numbered_below}
use Rattle.apl_select.proofs.Writing.{put_step, put_whole, written_is}

-- a slot that counts a place picks it alone
counts_picks : (n origin : ℕ) (slot : Option Arr) (k : ℕ) → counted_by n origin slot ≡ Some k → (picked_by n origin slot ≡ Ok (record { shape = []; places = k ∷ [] })) × (k < n)
counts_picks n origin None k e = absurd (cc)
counts_picks n origin (Some a) k e = by (number_of_scalar a) (λ z h. number_alone a z h) e
  where
    at : (z : ℤ) (r : Result ℕ Fault) → place_numbered n origin z ≡ r → result_ok r ≡ Some k → a ≡ single (Num z) → (picked_by n origin (Some a) ≡ Ok (record { shape = []; places = k ∷ [] })) × (k < n)
    at z (Ok j) h e s =
        let same : j ≡ k = cc in
        let counts : place_numbered n origin z ≡ Ok k = h ∙ ap (λ (i : ℕ). Ok i) same in (
          ap (λ (b : Arr). picked_by n origin (Some b)) s
              ∙ ap (λ (r : Result ℕ Fault). ok_map (λ ps. record { shape = []; places = ps }) (and_then r (λ y. ok_map (λ ys. y ∷ ys) (Ok [])))) counts,
          numbered_below n origin z k counts,
        )
    at z (Err x) h e s = absurd (cc)

    by : (o : Option ℤ) → ((z : ℤ) → o ≡ Some z → a ≡ single (Num z)) → option_and_then (λ z. result_ok (place_numbered n origin z)) o ≡ Some k →
        (picked_by n origin (Some a) ≡ Ok (record { shape = []; places = k ∷ [] })) × (k < n)
    by None s e = absurd (cc)
    by (Some z) s e = at z (place_numbered n origin z) refl e (s z refl)

-- one axis more
pub placed_step : (origin rows : ℕ) (shape : List ℕ) (slots : List (Option Arr)) (k : ℕ) (d : Option Arr) (p : ℕ) → k < length shape → k < length slots →
    counted_by (get_or shape k 0) origin (get_or slots k d) ≡ Some p → placed origin (rows * get_or shape k 0 + p) (drop (k + 1) shape) (drop (k + 1) slots) ≡ placed origin rows (drop k shape) (drop k slots)
placed_step origin rows shape slots k d p h g e =
    sym
    (ap (λ (l : List ℕ). placed origin rows l (drop k slots)) (rest_of shape k h)
    ∙ ap (λ (l : List (Option Arr)). placed origin rows (get_or shape k 0 ∷ drop (k + 1) shape) l) (rest_from slots k d g)
    ∙ ap (option_and_then (λ j. placed origin (rows * get_or shape k 0 + j) (drop (k + 1) shape) (drop (k + 1) slots))) e)

-- an axis on which no place is counted
pub placed_none : (origin rows : ℕ) (shape : List ℕ) (slots : List (Option Arr)) (k : ℕ) (d : Option Arr) → k < length shape → k < length slots →
    counted_by (get_or shape k 0) origin (get_or slots k d) ≡ None → placed origin rows (drop k shape) (drop k slots) ≡ None
placed_none origin rows shape slots k d h g e =
    ap (λ (l : List ℕ). placed origin rows l (drop k slots)) (rest_of shape k h)
    ∙ ap (λ (l : List (Option Arr)). placed origin rows (get_or shape k 0 ∷ drop (k + 1) shape) l) (rest_from slots k d g)
    ∙ ap (option_and_then (λ j. placed origin (rows * get_or shape k 0 + j) (drop (k + 1) shape) (drop (k + 1) slots))) e

-- a number that counts no place is an index fault
index_fault : (n origin : ℕ) (z : ℤ) (x : Fault) → place_numbered n origin z ≡ Err x → x ≡ Index
index_fault n origin (pos z) x e = at (nat_le origin z && nat_lt (z - origin) n) e
  where
    at : (b : Bool) → cond b (Ok (z - origin)) (Err Index) ≡ Err x → x ≡ Index
    at true e = absurd (cc)
    at false e = cc
index_fault n origin (negsuc z) x e = cc

counts_none : (n origin : ℕ) (a : Arr) → IsSome (number_of_scalar a) → counted_by n origin (Some a) ≡ None → picked_by n origin (Some a) ≡ Err Index
counts_none n origin a some e = by (number_of_scalar a) (λ z h. number_alone a z h) some e
  where
    at : (z : ℤ) (r : Result ℕ Fault) → place_numbered n origin z ≡ r → result_ok r ≡ None → a ≡ single (Num z) → picked_by n origin (Some a) ≡ Err Index
    at z (Ok j) h e s = absurd (cc)
    at z (Err x) h e s =
        ap (λ (b : Arr). picked_by n origin (Some b)) s
        ∙ ap (λ (r : Result ℕ Fault). ok_map (λ ps. record { shape = []; places = ps }) (and_then r (λ y. ok_map (λ ys. y ∷ ys) (Ok [])))) (h ∙ ap (λ (f : Fault). Err f) (index_fault n origin z x h))

    by : (o : Option ℤ) → ((z : ℤ) → o ≡ Some z → a ≡ single (Num z)) → IsSome o → option_and_then (λ z. result_ok (place_numbered n origin z)) o ≡ None → picked_by n origin (Some a) ≡ Err Index
    by None s some e = absurd (cc)
    by (Some z) s some e = at z (place_numbered n origin z) refl e (s z refl)

-- numbers that lead to no place are at fault
none_picks : (origin rows : ℕ) (shape : List ℕ) (slots : List (Option Arr)) → length slots ≡ length shape → AreNumbers slots → placed origin rows shape slots ≡ None →
    all_picked shape origin slots ≡ Err Index
none_picks origin rows [] slots l f e = absurd (cc)
none_picks origin rows (n ∷ ns) [] l f e = absurd (omega arith)
none_picks origin rows (n ∷ ns) (None ∷ slots) l f e = absurd f
none_picks origin rows (n ∷ ns) (Some a ∷ slots) l f e = at (counted_by n origin (Some a)) refl (λ k h. none_picks origin (rows * n + k) ns slots (omega arith) f.1 h) e
  where
    at : (o : Option ℕ) → counted_by n origin (Some a) ≡ o → ((k : ℕ) → placed origin (rows * n + k) ns slots ≡ None → all_picked ns origin slots ≡ Err Index) →
        option_and_then (λ k. placed origin (rows * n + k) ns slots) o ≡ None → all_picked (n ∷ ns) origin (Some a ∷ slots) ≡ Err Index
    at None h g e = ap (λ (r : Result Places Fault). and_then r (λ p. ok_map (λ ps. p ∷ ps) (all_picked ns origin slots))) (counts_none n origin a f.0 h)
    at (Some k) h g e =
        ap (λ (r : Result Places Fault). and_then r (λ p. ok_map (λ ps. p ∷ ps) (all_picked ns origin slots))) (counts_picks n origin (Some a) k h).0
        ∙ ap (λ (r : Result (List Places) Fault). ok_map (λ ps. record { shape = []; places = k ∷ [] } ∷ ps) r) (g k e)

-- what slots of one number each pick, and where it lies
pub record PicksOneEach (origin rows : ℕ) (shape : List ℕ) (slots : List (Option Arr)) (place : ℕ) : Type 0 where
  pub index : List ℕ
  pub picks : all_picked shape origin slots ≡ Ok (one_each index)
  pub within : is_within shape index ≡ true
  pub there : place ≡ rows * size_of shape + position_in shape index

pub placed_picks : (origin rows : ℕ) (shape : List ℕ) (slots : List (Option Arr)) (place : ℕ) → placed origin rows shape slots ≡ Some place → PicksOneEach origin rows shape slots place
placed_picks origin rows [] slots place e = record { index = []; picks = refl; within = refl; there = let s : rows ≡ place = cc in omega arith }
placed_picks origin rows (n ∷ ns) [] place e = absurd (cc)
placed_picks origin rows (n ∷ ns) (slot ∷ slots) place e = at (counted_by n origin slot) (λ k h. counts_picks n origin slot k h) (λ k h. placed_picks origin (rows * n + k) ns slots place h) e
  where
    ring : (rows n s k p : ℕ) → (rows * n + k) * s + p ≡ rows * (n * s) + (k * s + p)
    ring rows n s k p = omega arith

    at : (o : Option ℕ) → ((k : ℕ) → o ≡ Some k → (picked_by n origin slot ≡ Ok (record { shape = []; places = k ∷ [] })) × (k < n)) →
        ((k : ℕ) → placed origin (rows * n + k) ns slots ≡ Some place → PicksOneEach origin (rows * n + k) ns slots place) → option_and_then (λ k. placed origin (rows * n + k) ns slots) o ≡ Some place →
        PicksOneEach origin rows (n ∷ ns) (slot ∷ slots) place
    at None f g e = absurd (cc)
    at (Some k) f g e =
        let one = f k refl in
        let rest = g k e in
        record {
          index = k ∷ rest.index;
          picks =
              ap (λ (r : Result Places Fault). and_then r (λ p. ok_map (λ ps. p ∷ ps) (all_picked ns origin slots))) one.0
              ∙ ap (λ (r : Result (List Places) Fault). ok_map (λ ps. record { shape = []; places = k ∷ [] } ∷ ps) r) rest.picks;
          within = ap (λ (b : Bool). b && is_within ns rest.index) (lt-ltb k n one.1) ∙ rest.within;
          there = rest.there ∙ ring rows n (size_of ns) k (position_in ns rest.index);
        }

-- as many slots as axes
picks_place : (a : Arr) (origin : ℕ) (slots : List (Option Arr)) (shape : List ℕ) (place : ℕ) → length slots ≡ length a.shape → shape ≡ a.shape → placed origin 0 shape slots ≡ Some place → PicksPlace a origin slots place
picks_place a origin slots shape place l s e =
    let p = placed_picks origin 0 a.shape slots place (ap (λ (z : List ℕ). placed origin 0 z slots) (sym s) ∙ e) in
    record {
      index = p.index;
      picks = ap (λ (b : Bool). and_then (demand b Rank) (λ u. all_picked a.shape origin slots)) (eq-eqb (length slots) (length a.shape) l) ∙ p.picks;
      within = p.within;
      there = p.there ∙ none (size_of a.shape) (position_in a.shape p.index);
    }
  where
    none : (s p : ℕ) → 0 * s + p ≡ p
    none s p = omega arith

picks_none : (a : Arr) (origin : ℕ) (slots : List (Option Arr)) (shape : List ℕ) → length slots ≡ length a.shape → shape ≡ a.shape → placed origin 0 shape slots ≡ None → PicksNone a origin slots
picks_none a origin slots shape l s e f =
    let p = none_picks origin 0 a.shape slots l f (ap (λ (z : List ℕ). placed origin 0 z slots) (sym s) ∙ e) in
    let many = eq-eqb (length slots) (length a.shape) l in
    ap (λ (b : Bool). and_then (demand b Rank) (λ u. all_picked a.shape origin slots)) many ∙ p ∙ ap (λ (b : Bool). Err (cond b Index Rank)) (sym many)

pub picks_if_placed : (a : Arr) (origin : ℕ) (slots : List (Option Arr)) (shape : List ℕ) (r : Option ℕ) → length slots ≡ length a.shape → shape ≡ a.shape →
    placed origin 0 shape slots ≡ r → MatchOption r (PicksNone a origin slots) (PicksPlace a origin slots)
picks_if_placed a origin slots shape None l s h = picks_none a origin slots shape l s h
picks_if_placed a origin slots shape (Some place) l s h = picks_place a origin slots shape place l s h

-- another count of slots than of axes
pub others_pick_none : (a : Arr) (origin : ℕ) (slots : List (Option Arr)) → (length slots ≡ length a.shape → ⊥) → PicksNone a origin slots
others_pick_none a origin slots l f =
    let other = ne_eqb (length slots) (length a.shape) l in
    ap (λ (b : Bool). and_then (demand b Rank) (λ u. all_picked a.shape origin slots)) other ∙ ap (λ (b : Bool). Err (cond b Index Rank)) (sym other)

-- numbers that pick no place index nothing
pub none_indexed : (b : Arr) (origin : ℕ) (slots : List (Option Arr)) → PicksNone b origin slots → AreNumbers slots → indexed b slots origin ≡ Err (fault_of_numbers b slots)
none_indexed b origin slots p f = ap (λ (m : Result (List Places) Fault). and_then m (λ ps. ok_map (λ shape. selected b shape (led_to ps)) (limited (joined_shape ps)))) (p f)

-- index lists of which each slot has one
joined_one : (index : List ℕ) → joined_shape (one_each index) ≡ []
joined_one [] = refl
joined_one (k ∷ ks) = joined_one ks

led_to_one : (index : List ℕ) → led_to (one_each index) [] ≡ index
led_to_one [] = refl
led_to_one (k ∷ ks) = ap (λ (l : List ℕ). k ∷ l) (led_to_one ks)

led_one : (shape index : List ℕ) → led shape (one_each index) ≡ position_in shape index ∷ []
led_one shape index =
    ap (λ (s : List ℕ). map (λ i. position_in shape (led_to (one_each index) i)) (indices s)) (joined_one index) ∙ ap (λ (i : List ℕ). position_in shape i ∷ []) (led_to_one index)

on_axes_each : (shape index : List ℕ) → is_within shape index ≡ true → AreOnAxes shape (one_each index)
on_axes_each [] [] w = tt
on_axes_each [] (k ∷ ks) w = absurd (cc)
on_axes_each (n ∷ ns) [] w = absurd (cc)
on_axes_each (n ∷ ns) (k ∷ ks) w = (refl, All-cons (λ j. j < n) k [] (within_head n k ns ks w) (All-nil (λ j. j < n)), on_axes_each ns ks (both (nat_lt k n) (is_within ns ks) w).1)

-- a number written to one place
put_one : (xs : List ℤ) (place : ℕ) (z : ℤ) → place < length xs → put_all (pos 0) xs (z ∷ []) (place ∷ []) ≡ slice_set xs place z
put_one xs place z l =
    sym
    (put_whole (pos 0) xs (z ∷ []) (set xs place z) (place ∷ []) 1 (length-set xs place z) refl
    (λ q. put_step xs (z ∷ []) xs (place ∷ []) 0 0 z q (pos 0) l refl (omega arith) refl refl))

put_one_items : (items : Items) (place : ℕ) (z : ℤ) → place < length (cells_of items) → put_items items (Numbers (z ∷ [])) (place ∷ []) ≡ with_number items place z
put_one_items (Numbers xs) place z l = ap (λ (zs : List ℤ). Numbers zs) (put_one xs place z (omega (arith, length-map xs Num)))
put_one_items (Characters cs) place z l = refl

typed_numbers : (items : Items) (z : ℤ) → are_numbers items ≡ true → typed 1 items (Numbers (z ∷ [])) ≡ Ok tt
typed_numbers (Numbers xs) z e = refl
typed_numbers (Characters cs) z e = absurd (cc)

-- assignment of one number to one place
assigned_one : (v b : Arr) (origin : ℕ) (slots : List (Option Arr)) (place : ℕ) (z : ℤ) → length (cells_of v.items) ≡ size_of v.shape → PicksPlace v origin slots place → b.items ≡ Numbers (z ∷ []) →
    are_numbers v.items ≡ true → assigned v slots b origin ≡ Ok (number_written v place z)
assigned_one v b origin slots place z full p e numbers =
    ap (λ (m : Result (List Places) Fault). and_then m (λ ps. and_then (limited (joined_shape ps)) (λ shape. assigned_at v ps shape b))) p.picks
    ∙ ap (λ (s : List ℕ). and_then (limited s) (λ shape. assigned_at v (one_each p.index) shape b)) (joined_one p.index)
    ∙ ap (λ (items : Items). assigned_at v (one_each p.index) [] (record { shape = b.shape; items = items })) e
    ∙ ap (λ (r : Result (Unit {0}) Fault). ok_map (λ u. written v (one_each p.index) one) r) (typed_numbers v.items z numbers)
    ∙ ap (λ (a : Arr). Ok a)
    (written_is v one (one_each p.index) (led v.shape (one_each p.index)) (on_axes_each v.shape p.index p.within) full refl
    ∙ ap (λ (places : List ℕ). overwritten v one places) (led_one v.shape p.index ∙ ap (λ (q : ℕ). q ∷ []) (sym p.there))
    ∙ ap (λ (items : Items). record { shape = v.shape; items = items }) (put_one_items v.items place z (omega (arith, full, p.there, position_in-lt v.shape p.index p.within))))
  where
    one : Arr
    one = record { shape = b.shape; items = Numbers (z ∷ []) }

-- what writing a number in place has made, if it did
pub assigned_if : (v b new : Arr) (origin : ℕ) (slots : List (Option Arr)) (place : ℕ) (z : ℤ) (done : Bool) → length (cells_of v.items) ≡ size_of v.shape → PicksPlace v origin slots place →
    b.items ≡ Numbers (z ∷ []) → new ≡ cond done (number_written v place z) v → (IsTrue done → (are_numbers v.items ≡ true) × (place < length (cells_of v.items))) →
    MatchBool done (assigned v slots b origin ≡ Ok new) (new ≡ v)
assigned_if v b new origin slots place z true full p e h there = assigned_one v b origin slots place z full p e (there (search rules)).0 ∙ ap (λ (a : Arr). Ok a) (sym h)
assigned_if v b new origin slots place z false full p e h there = h

-- numbers that pick no place are at fault, whatever is assigned
pub fault_assigned : (v b : Arr) (origin : ℕ) (slots : List (Option Arr)) (fault : Fault) → PicksNone v origin slots → AreNumbers slots → fault ≡ fault_of_numbers v slots →
    assigned v slots b origin ≡ Err fault
fault_assigned v b origin slots fault p n e =
    ap (λ (m : Result (List Places) Fault). and_then m (λ ps. and_then (limited (joined_shape ps)) (λ shape. assigned_at v ps shape b))) (p n) ∙ ap (λ (f : Fault). Err f) (sym e)

-- the only place of a vector of one number
pub only_place : (v : Arr) (origin : ℕ) (slots : List (Option Arr)) (place : ℕ) → v.shape ≡ 1 ∷ [] → PicksPlace v origin slots place → place ≡ 0
only_place v origin slots place e p = let one : size_of v.shape ≡ 1 = ap size_of e in omega (arith, p.there, position_in-lt v.shape p.index p.within)

-- the only number of a list
pub lone : (items : Items) (z : ℤ) → lone_number items ≡ Some z → items ≡ Numbers (z ∷ [])
lone (Numbers []) z e = absurd (cc)
lone (Numbers (y ∷ [])) z e = let s : y ≡ z = cc in ap (λ (x : ℤ). Numbers (x ∷ [])) s
lone (Numbers (y ∷ x ∷ zs)) z e = absurd (cc)
lone (Characters cs) z e = absurd (cc)

-- the element at one place
number_one : (zs : List ℤ) (place : ℕ) (cell : Cell) → slice_get (map Num zs) place ≡ Some cell → record { shape = []; items = Numbers (get_or zs place (pos 0) ∷ []) } ≡ single cell
number_one [] place cell e = absurd (cc)
number_one (z ∷ zs) zero cell e = let s : Num z ≡ cell = cc in ap single s
number_one (z ∷ zs) (suc place) cell e = number_one zs place cell e

character_one : (cs : List ℕ) (place : ℕ) (cell : Cell) → slice_get (map Char cs) place ≡ Some cell → record { shape = []; items = Characters (get_or cs place 0 ∷ []) } ≡ single cell
character_one [] place cell e = absurd (cc)
character_one (c ∷ cs) zero cell e = let s : Char c ≡ cell = cc in ap single s
character_one (c ∷ cs) (suc place) cell e = character_one cs place cell e

picked_one : (items : Items) (place : List ℕ → ℕ) (cell : Cell) → slice_get (cells_of items) (place []) ≡ Some cell → record { shape = []; items = picked items place ([] ∷ []) } ≡ single cell
picked_one (Numbers zs) place cell e = number_one zs (place []) cell e
picked_one (Characters cs) place cell e = character_one cs (place []) cell e

pub indexed_one : (b : Arr) (origin : ℕ) (slots : List (Option Arr)) (place : ℕ) (cell : Cell) → PicksPlace b origin slots place → slice_get (cells_of b.items) place ≡ Some cell → indexed b slots origin ≡ Ok (single cell)
indexed_one b origin slots place cell p e =
    ap (λ (m : Result (List Places) Fault). and_then m (λ ps. ok_map (λ shape. selected b shape (led_to ps)) (limited (joined_shape ps)))) p.picks
    ∙ ap (λ (s : List ℕ). ok_map (λ shape. selected b shape (led_to (one_each p.index))) (limited s)) (joined_one p.index)
    ∙ ap (λ (a : Arr). Ok a)
    (picked_one b.items (λ i. position_in b.shape (led_to (one_each p.index) i)) cell
    (ap (slice_get (cells_of b.items)) (ap (position_in b.shape) (led_to_one p.index) ∙ sym p.there) ∙ e))

-- what gives a value found no fault first
pub no_fault : {A B C : Type 0} (m : Result A Fault) (f : A → Result B Fault) (x : B) (r : Result C Stop) → and_then m f ≡ Ok x → FaultsFirst m r
no_fault (Ok a) f x r e = tt
no_fault (Err fault) f x r e = absurd (cc)

-- there is an item at each place below the length
is_there : {A : Type 0} (xs : List A) (k : ℕ) → k < length xs → None ≡ slice_get xs k → ⊥
is_there [] k l e = omega arith
is_there (x ∷ xs) zero l e = cc
is_there (x ∷ xs) (suc k) l e = is_there xs k (omega arith) e

-- the element that was read, if it was
pub indexed_if : (b : Arr) (origin : ℕ) (slots : List (Option Arr)) (place : ℕ) (items : Items) (r : Option Cell) → length (cells_of b.items) ≡ size_of b.shape → PicksPlace b origin slots place → items ≡ b.items →
    r ≡ slice_get (cells_of items) place → MatchOption r (AreNumbers slots → indexed b slots origin ≡ Err (fault_of_numbers b slots)) (λ cell. indexed b slots origin ≡ Ok (single cell))
indexed_if b origin slots place items None full p s e = λ f. absurd
    (is_there (cells_of b.items) place (omega (arith, full, p.there, position_in-lt b.shape p.index p.within)) (e ∙ ap (λ (t : Items). slice_get (cells_of t) place) s))
indexed_if b origin slots place items (Some cell) full p s e = indexed_one b origin slots place cell p (ap (λ (t : Items). slice_get (cells_of t) place) (sym s) ∙ sym e)

-- a list of one number
pub one_number : (zs : List ℤ) → 1 ≤ length zs → length zs < 2 → zs ≡ get_or zs 0 (pos 0) ∷ []
one_number [] h l = absurd (omega arith)
one_number (z ∷ []) h l = refl
one_number (y ∷ z ∷ zs) h l = absurd (omega arith)

-- the first number of an array fits 64 bits
pub first_fits : (items : Items) (zs : List ℤ) → Numbers zs ≡ items → AreStorable items → 1 ≤ length zs → FitsSigned w64 (get_or zs 0 (pos 0))
first_fits items zs e s h = All-get_or (λ z. FitsSigned w64 z) zs 0 (pos 0) (omega arith) (subst AreStorable (sym e) s)

-- each slot holds a number
pub each_number : (slots : List (Option Arr)) → list_all holds_number slots ≡ true → AreNumbers slots
each_number [] e = tt
each_number (None ∷ slots) e = absurd (cc)
each_number (Some a ∷ slots) e = at (number_of_scalar a) (λ h. each_number slots h) e
  where
    at : (o : Option ℤ) → (list_all holds_number slots ≡ true → AreNumbers slots) → is_some o && list_all holds_number slots ≡ true → IsSome o × AreNumbers slots
    at None f e = absurd (cc)
    at (Some z) f e = (refl, f e)

pub not_each_number : (slots : List (Option Arr)) → list_all holds_number slots ≡ false → AreNumbers slots → ⊥
not_each_number [] e n = cc
not_each_number (None ∷ slots) e n = n
not_each_number (Some a ∷ slots) e n = at (number_of_scalar a) (λ h. not_each_number slots h n.1) n.0 e
  where
    at : (o : Option ℤ) → (list_all holds_number slots ≡ false → ⊥) → IsSome o → is_some o && list_all holds_number slots ≡ false → ⊥
    at None f n e = absurd (cc)
    at (Some z) f n e = f e
