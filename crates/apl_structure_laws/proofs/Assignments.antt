-- What was assigned by index is read by the same index.
use Rattle.std.proofs.Common.{◌≡◌, ◌≢◌, ℕ, pos, ◌%◌, ◌<◌, ◌≤◌, ◌==◌, ◌||◌, Bool, true, false, not, cond, List, [], ◌∷◌, map, length, get_or, AllPairs, Option, Some, None, Result, Ok, Err, refl, ap, sym, ◌∙◌, subst, arith}
use Rattle.std.specs.Prelude.{slice_get, unsigned_abs}
use Rattle.std.specs.Option.{option_map}
use Rattle.std.specs.Int.{is_negative}
use Rattle.std.specs.List.{AllByRecursion, list_any, range_with_len}
use Rattle.std.proofs.lemmas.Bool.{eqb-true}
use Rattle.std.proofs.lemmas.List.{length-map}
use Rattle.std.proofs.lemmas.List.Elements.{recursion_from_All}
use Rattle.std.proofs.lemmas.Option.{slice_get-get_or, slice_get-map}
use Rattle.std.proofs.Math.Nat.{mod-eq_of_lt, mod-one}
use Rattle.apl_faults.specs.declared.fault.Fault.{Fault}
use Rattle.apl_faults.specs.declared.fault.Fault.TheVariants.{Domain, Limit}
use Rattle.apl_arrays.specs.declared.cell.Cell.TheVariants.{Num, Char}
use Rattle.apl_arrays.specs.Cells.{Arr, Items, Numbers, Characters, cell_at, cells_of}
use Rattle.apl_arrays.specs.Checks.{count_of, demand, is_limited, limited}
use Rattle.apl_arrays.specs.Index.{indices, is_within, position_in, size_of}
use Rattle.apl_arrays.specs.Results.{and_then, ok_map}
use Rattle.apl_arrays.specs.Views.{picked, selected}
use Rattle.apl_arrays.proofs.AtPlace.{at_place}
use Rattle.apl_arrays.proofs.Formed.{picked_at}
use Rattle.apl_arrays.proofs.InOrder.{map_same}
use Rattle.apl_arrays.proofs.Order.{all_within, length-indices, map_by_places}
use Rattle.apl_arrays.proofs.Places.{position_in-lt}
use Rattle.apl_reshape.specs.Reshape.{item_round, named_shape, reshaped, shape_of, taken_round}
use Rattle.apl_select.specs.Assignment.{assigned_at, fits_over, last_to, overlaid, overlaid_items, same_type, typed, written}
use Rattle.apl_select.specs.Indexing.{Places, indexed, joined_shape, led_to}
use Rattle.apl_select.specs.Lined.{item_or, place_served}
use Rattle.apl_select.specs.inside.Reached.{AreOnAxes}
use Rattle.apl_arrays.specs.Written.{AreEnough}
use Rattle.apl_select.proofs.Fits.{fits_enough}
use Rattle.apl_select.proofs.Reaching.{led_within}
use Rattle.apl_structure_laws.specs.Assignments.{AreAssigned, LastStands, LeadsLast, ReadsBack}
use Rattle.apl_structure_laws.proofs.Fronts.{get_or-any, magnitudes, not_negative}
use Rattle.apl_structure_laws.proofs.Leading.{last_to-is, leads-once, on_axes}

-- ---- what is written over others

overlaid-at : {A : Type 0} (d : A) (xs ys : List A) (shape l : List ℕ) (source : List ℕ → Option ℕ) (q : ℕ) → is_within shape l ≡ true → source l ≡ Some q → place_served (length ys) q < length ys →
    get_or (overlaid d xs ys shape source) (position_in shape l) d ≡ get_or ys (place_served (length ys) q) d
overlaid-at d xs ys shape l source q w e h =
    at_place (λ i. item_or (get_or xs (position_in shape i) d) ys (option_map (place_served (length ys)) (source i))) d shape l w
    ∙ ap (λ (o : Option ℕ). item_or (get_or xs (position_in shape l) d) ys (option_map (place_served (length ys)) o)) e
    ∙ get_or-any ys (place_served (length ys) q) (get_or xs (position_in shape l) d) d h

length-overlaid : (xs ys : Items) (shape : List ℕ) (source : List ℕ → Option ℕ) → same_type xs ys ≡ true → length (cells_of (overlaid_items xs ys shape source)) ≡ size_of shape
length-overlaid (Numbers xs) (Numbers ys) shape source e =
    length-map (overlaid (pos 0) xs ys shape source) Num ∙ length-map (indices shape) (λ i. item_or (get_or xs (position_in shape i) (pos 0)) ys (option_map (place_served (length ys)) (source i))) ∙ length-indices shape
length-overlaid (Numbers xs) (Characters ys) shape source e = absurd (cc)
length-overlaid (Characters xs) (Numbers ys) shape source e = absurd (cc)
length-overlaid (Characters xs) (Characters ys) shape source e =
    length-map (overlaid 0 xs ys shape source) Char ∙ length-map (indices shape) (λ i. item_or (get_or xs (position_in shape i) 0) ys (option_map (place_served (length ys)) (source i))) ∙ length-indices shape

-- the element at an index list, as one of those that were written
cell-at : {A C : Type 0} (as_cell : A → C) (d : A) (xs ys : List A) (shape l : List ℕ) (source : List ℕ → Option ℕ) (q : ℕ) → is_within shape l ≡ true → source l ≡ Some q → place_served (length (map as_cell ys)) q < length (map as_cell ys) →
    slice_get (map as_cell (overlaid d xs ys shape source)) (position_in shape l) ≡ slice_get (map as_cell ys) (place_served (length (map as_cell ys)) q)
cell-at as_cell d xs ys shape l source q w e h =
    let long : length (map as_cell ys) ≡ length ys = length-map ys as_cell in
    let below : place_served (length ys) q < length ys = subst (λ n. place_served n q < n) long h in
    let full : length (overlaid d xs ys shape source) ≡ size_of shape = length-map (indices shape) (λ i. item_or (get_or xs (position_in shape i) d) ys (option_map (place_served (length ys)) (source i))) ∙ length-indices shape in
    slice_get-map as_cell (overlaid d xs ys shape source) (position_in shape l)
    ∙ ap (option_map as_cell)
    (slice_get-get_or (overlaid d xs ys shape source) (position_in shape l) d (omega (arith, position_in-lt shape l w))
    ∙ ap Some (overlaid-at d xs ys shape l source q w e below)
    ∙ sym (slice_get-get_or ys (place_served (length ys) q) d below))
    ∙ sym (slice_get-map as_cell ys (place_served (length ys) q))
    ∙ ap (λ n. slice_get (map as_cell ys) (place_served n q)) (sym long)

cells-at : (xs ys : Items) (shape l : List ℕ) (source : List ℕ → Option ℕ) (q : ℕ) → same_type xs ys ≡ true → is_within shape l ≡ true → source l ≡ Some q → place_served (length (cells_of ys)) q < length (cells_of ys) →
    slice_get (cells_of (overlaid_items xs ys shape source)) (position_in shape l) ≡ slice_get (cells_of ys) (place_served (length (cells_of ys)) q)
cells-at (Numbers xs) (Numbers ys) shape l source q t w e h = cell-at Num (pos 0) xs ys shape l source q w e h
cells-at (Numbers xs) (Characters ys) shape l source q t w e h = absurd (cc)
cells-at (Characters xs) (Numbers ys) shape l source q t w e h = absurd (cc)
cells-at (Characters xs) (Characters ys) shape l source q t w e h = cell-at Char 0 xs ys shape l source q w e h

-- ---- what was assigned

pub record Written (v b c : Arr) (ps : List Places) : Type 0 where
  pub is_written : written v ps b ≡ c
  pub fits : fits_over (joined_shape ps) b ≡ Ok tt
  pub within_limits : is_limited (joined_shape ps) ≡ true

written_by : (v b c : Arr) (slots : List (Option Arr)) (origin : ℕ) (ps : List Places) → AreAssigned v b c slots origin ps → Written v b c ps
written_by v b c slots origin ps a = limits (is_limited (joined_shape ps)) refl (sym (ap (λ (r : Result (List Places) Fault). and_then r (λ ps. and_then (limited (joined_shape ps)) (λ shape. assigned_at v ps shape b))) a.picks) ∙ a.assigned_is)
  where
    types : (d : Bool) → fits_over (joined_shape ps) b ≡ Ok tt → is_limited (joined_shape ps) ≡ true → ok_map (λ u. written v ps b) (demand d Domain) ≡ Ok c → Written v b c ps
    types true f l e = record { is_written = cc; fits = f; within_limits = l }
    types false f l e = absurd (cc)

    fit : (r : Result (Unit {0}) Fault) → fits_over (joined_shape ps) b ≡ r → is_limited (joined_shape ps) ≡ true → and_then r (λ u. ok_map (λ u. written v ps b) (typed (size_of (joined_shape ps)) v.items b.items)) ≡ Ok c → Written v b c ps
    fit (Ok u) f l e = types (size_of (joined_shape ps) == 0 || same_type v.items b.items) f l e
    fit (Err x) f l e = absurd (cc)

    limits : (d : Bool) → is_limited (joined_shape ps) ≡ d → and_then (ok_map (λ u. joined_shape ps) (demand d Limit)) (λ shape. assigned_at v ps shape b) ≡ Ok c → Written v b c ps
    limits true l e = fit (fits_over (joined_shape ps) b) refl l e
    limits false l e = absurd (cc)

module _ (v b : Arr) (slots : List (Option Arr)) (origin : ℕ) (ps : List Places) (a : AreAssigned v b (written v ps b) slots origin ps) (w : Written v b (written v ps b) ps) where
  abbrev read : Arr
  read = selected (written v ps b) (joined_shape ps) (led_to ps)

  read_is : indexed (written v ps b) slots origin ≡ Ok read
  read_is =
      ap (λ (r : Result (List Places) Fault). and_then r (λ qs. ok_map (λ shape. selected (written v ps b) shape (led_to qs)) (limited (joined_shape qs)))) a.picks
      ∙ ap (λ (d : Bool). ok_map (λ shape. selected (written v ps b) shape (led_to ps)) (ok_map (λ u. joined_shape ps) (demand d Limit))) w.within_limits

  on : AreOnAxes v.shape ps
  on = on_axes v origin slots ps a.slots_are a.picks

  enough : AreEnough (count_of b) (size_of (joined_shape ps))
  enough = fits_enough (joined_shape ps) (joined_shape ps) b a.value.full w.fits refl

  stands : (i j : List ℕ) → LeadsLast read ps i j → cell_at read i ≡ slice_get (cells_of b.items) (place_served (count_of b) (position_in (joined_shape ps) j))
  stands i j h =
      let inside : is_within v.shape (led_to ps i) ≡ true = led_within v.shape ps i on h.first in
      let full : length (cells_of (written v ps b).items) ≡ size_of v.shape = length-overlaid v.items b.items v.shape (last_to ps) a.one_type in
      ap (λ (d : Bool). cond d (slice_get (cells_of read.items) (position_in (joined_shape ps) i)) None) h.first
      ∙ picked_at (written v ps b).items (λ i. position_in v.shape (led_to ps i)) (joined_shape ps) i h.first (omega (arith, position_in-lt v.shape (led_to ps i) inside))
      ∙ cells-at v.items b.items v.shape (led_to ps i) (last_to ps) (position_in (joined_shape ps) j) a.one_type inside (last_to-is ps i j h.last h.there h.behind)
      (enough (position_in (joined_shape ps) j) (position_in-lt (joined_shape ps) j h.last))

pub last_stands : LastStands
last_stands v b c slots origin ps a = of (written_by v b c slots origin ps a) a
  where
    of : Written v b c ps → AreAssigned v b c slots origin ps → (d : Arr) × (indexed c slots origin ≡ Ok d) × ((i j : List ℕ) → LeadsLast d ps i j → cell_at d i ≡ slice_get (cells_of b.items) (place_served (count_of b) (position_in d.shape j)))
    of w = subst (λ (x : Arr). Written v b x ps → AreAssigned v b x slots origin ps → (d : Arr) × (indexed x slots origin ≡ Ok d) × ((i j : List ℕ) → LeadsLast d ps i j → cell_at d i ≡ slice_get (cells_of b.items) (place_served (count_of b) (position_in d.shape j))))
        w.is_written (λ w a. (selected (written v ps b) (joined_shape ps) (led_to ps), read_is v b slots origin ps a w, stands v b slots origin ps a w)) w

-- ---- where each place is picked once

served-round : (n q m : ℕ) → AreEnough n m → q < m → place_served n q ≡ q % n
served-round n q m h l = by (n == 1) refl (h q l)
  where
    by : (d : Bool) → (n == 1) ≡ d → cond d 0 q < n → cond d 0 q ≡ q % n
    by true e b = sym (ap (λ k. q % k) (eqb-true n 1 e) ∙ mod-one q)
    by false e b = sym (mod-eq_of_lt b)

none_negative : (s : List ℕ) → list_any is_negative (map pos s) ≡ false
none_negative [] = refl
none_negative (n ∷ s) = ap (λ (d : Bool). d || list_any is_negative (map pos s)) (not_negative n) ∙ none_negative s

named : (d : Arr) → is_limited d.shape ≡ true → named_shape (shape_of d) ≡ Ok d.shape
named d l =
    ap (λ (x : Bool). and_then (demand (not x) Domain) (λ ok. limited (map unsigned_abs (map pos d.shape)))) (none_negative d.shape)
    ∙ ap limited (magnitudes d.shape) ∙ ap (λ (x : Bool). ok_map (λ u. d.shape) (demand x Limit)) l

round-items : {A : Type 0} (fill d : A) (xs ys : List A) (shape : List ℕ) (ps : List Places) → AreOnAxes shape ps → AllByRecursion (λ p. AllPairs (λ j k. j ≢ k) p.places) ps → AreEnough (length ys) (size_of (joined_shape ps)) →
    map (item_round ys fill) (range_with_len 0 (size_of (joined_shape ps))) ≡ map (λ i. get_or (overlaid d xs ys shape (last_to ps)) (position_in shape (led_to ps i)) d) (indices (joined_shape ps))
round-items fill d xs ys shape ps on apart enough =
    sym (map_by_places (joined_shape ps) (item_round ys fill))
    ∙ map_same (λ i. is_within (joined_shape ps) i ≡ true) (λ i. item_round ys fill (position_in (joined_shape ps) i)) (λ i. get_or (overlaid d xs ys shape (last_to ps)) (position_in shape (led_to ps i)) d)
    (λ i w. ap (λ q. get_or ys q fill) (sym (served-round (length ys) (position_in (joined_shape ps) i) (size_of (joined_shape ps)) enough (position_in-lt (joined_shape ps) i w)))
    ∙ get_or-any ys (place_served (length ys) (position_in (joined_shape ps) i)) fill d (enough (position_in (joined_shape ps) i) (position_in-lt (joined_shape ps) i w))
    ∙ sym (overlaid-at d xs ys shape (led_to ps i) (last_to ps) (position_in (joined_shape ps) i) (led_within shape ps i on w)
    (last_to-is ps i i w refl (λ k v e. same_place (position_in (joined_shape ps) k) (position_in (joined_shape ps) i) (ap (position_in (joined_shape ps)) (leads-once shape ps k i on apart v w e))))
    (enough (position_in (joined_shape ps) i) (position_in-lt (joined_shape ps) i w))))
    (indices (joined_shape ps)) (all_within (joined_shape ps))
  where
    same_place : (m n : ℕ) → m ≡ n → m ≤ n
    same_place m n e = omega arith

read-items : (xs ys : Items) (shape : List ℕ) (ps : List Places) → same_type xs ys ≡ true → AreOnAxes shape ps → AllByRecursion (λ p. AllPairs (λ j k. j ≢ k) p.places) ps → AreEnough (length (cells_of ys)) (size_of (joined_shape ps)) →
    taken_round (size_of (joined_shape ps)) ys ≡ picked (overlaid_items xs ys shape (last_to ps)) (λ i. position_in shape (led_to ps i)) (indices (joined_shape ps))
read-items (Numbers xs) (Numbers ys) shape ps t on apart enough = ap (λ l. Numbers l) (round-items (pos 0) (pos 0) xs ys shape ps on apart (subst (λ n. AreEnough n (size_of (joined_shape ps))) (length-map ys Num) enough))
read-items (Numbers xs) (Characters ys) shape ps t on apart enough = absurd (cc)
read-items (Characters xs) (Numbers ys) shape ps t on apart enough = absurd (cc)
read-items (Characters xs) (Characters ys) shape ps t on apart enough = ap (λ l. Characters l) (round-items 32 0 xs ys shape ps on apart (subst (λ n. AreEnough n (size_of (joined_shape ps))) (length-map ys Char) enough))

pub reads_back : ReadsBack
reads_back v b c slots origin ps a once = of (written_by v b c slots origin ps a) a
  where
    of : Written v b c ps → AreAssigned v b c slots origin ps → (d : Arr) × (indexed c slots origin ≡ Ok d) × (reshaped (shape_of d) b ≡ Ok d)
    of w = subst (λ (x : Arr). Written v b x ps → AreAssigned v b x slots origin ps → (d : Arr) × (indexed x slots origin ≡ Ok d) × (reshaped (shape_of d) b ≡ Ok d))
        w.is_written
        (λ w a. (
          selected (written v ps b) (joined_shape ps) (led_to ps),
          read_is v b slots origin ps a w,
          ap (ok_map (λ s. record { shape = s; items = taken_round (size_of s) b.items })) (named (selected (written v ps b) (joined_shape ps) (led_to ps)) w.within_limits)
              ∙ ap (λ (x : Items). Ok (record { shape = joined_shape ps; items = x })) (read-items v.items b.items v.shape ps a.one_type (on v b slots origin ps a w) (recursion_from_All (λ p. AllPairs (λ j k. j ≢ k) p.places) ps once) (enough v b slots origin ps a w)),
        )) w
