-- What slots pick lies on the axes.
use Rattle.std.proofs.Common.{zero, suc, ◌≡◌, ℕ, ℤ, pos, negsuc, ◌+◌, ◌-◌, ◌*◌, ◌<◌, ◌≤◌, ◌&&◌, Bool, true, false, nat_lt, nat_le, cond, List, [], ◌∷◌, ◌++◌, take, drop, length, get_or, refl, ap, sym, ◌∙◌, arith, add-one, append-nil, Option, Result, Ok, Err}
use Rattle.std.specs.List.{range_with_len, All}
use Rattle.std.proofs.lemmas.Bool.{ltb-true}
use Rattle.std.proofs.lemmas.List.{drop_all, length-map}
use Rattle.std.proofs.lemmas.List.Elements.{All-nil, All-cons}
use Rattle.std.proofs.lemmas.List.FromFn.{length-range_with_len}
use Rattle.apl_faults.specs.declared.fault.Fault.{Fault}
use Rattle.apl_faults.specs.declared.fault.Fault.TheVariants.{Index}
use Rattle.apl_arrays.specs.declared.cell.Cell.TheVariants.{Num}
use Rattle.apl_arrays.specs.Index.{size_of}
use Rattle.apl_arrays.specs.Cells.{Arr, Items, Numbers, Characters, cells_of}
use Rattle.apl_arrays.specs.Checks.{numbers_of}
use Rattle.apl_arrays.specs.Results.{and_then, ok_map, all_ok}
use Rattle.apl_arrays.proofs.InTurn.{after, after_one, all_ok-map, range_below}
use Rattle.apl_arrays.proofs.Places.{both, rest_of}
use Rattle.apl_select.specs.Indexing.{Places, place_numbered, picked_by, all_picked}
use Rattle.apl_select.specs.inside.Reached.{AreOnAxes}
use Rattle.apl_select.proofs.Lists.{all_read, all_from, rest_from}

pub numbered_below : (n origin : ℕ) (z : ℤ) (p : ℕ) → place_numbered n origin z ≡ Ok p → p < n
numbered_below n origin (pos z) p e = at (nat_le origin z && nat_lt (z - origin) n) (λ h. ltb-true (z - origin) n (both (nat_le origin z) (nat_lt (z - origin) n) h).1) e
  where
    at : (b : Bool) → (b ≡ true → z - origin < n) → cond b (Ok (z - origin)) (Err Index) ≡ Ok p → p < n
    at true h e = let s : z - origin ≡ p = cc in omega (arith, h refl)
    at false h e = absurd (cc)
numbered_below n origin (negsuc z) p e = absurd (cc)

-- numbers that count places count places on the axis
pub places_below : (n origin : ℕ) (zs : List ℤ) (ps : List ℕ) → all_ok (place_numbered n origin) zs ≡ Ok ps → All (λ k. k < n) ps
places_below n origin [] ps e = let s : ps ≡ [] = cc in rw s (All-nil (λ k. k < n))
places_below n origin (z ∷ zs) ps e =
    at (place_numbered n origin z) (all_ok (place_numbered n origin) zs) e (λ y h. numbered_below n origin z y h) (λ ys h. places_below n origin zs ys h)
  where
    at : (r : Result ℕ Fault) (q : Result (List ℕ) Fault) → and_then r (λ y. ok_map (λ ys. y ∷ ys) q) ≡ Ok ps → ((y : ℕ) → r ≡ Ok y → y < n) → ((ys : List ℕ) → q ≡ Ok ys → All (λ k. k < n) ys) → All (λ k. k < n) ps
    at (Ok y) (Ok ys) e f g = let s : ps ≡ y ∷ ys = cc in rw s (All-cons (λ k. k < n) y ys (f y refl) (g ys refl))
    at (Ok y) (Err x) e f g = absurd (cc)
    at (Err x) q e f g = absurd (cc)

-- numbers in turn
pub by_number : {B E : Type 0} (f : ℤ → Result B E) (zs : List ℤ) → all_ok (λ k. f (get_or zs k (pos 0))) (range_with_len 0 (length zs)) ≡ all_ok f zs
by_number f zs = sym (all_ok-map f (λ k. get_or zs k (pos 0)) (range_with_len 0 (length zs))) ∙ ap (all_ok f) (all_read zs (length zs) (pos 0) refl)

-- there are as many numbers as elements
pub numbers_length : (items : Items) (zs : List ℤ) → numbers_of items ≡ Ok zs → length zs ≡ length (cells_of items)
numbers_length (Numbers xs) zs e = let s : zs ≡ xs = cc in ap length s ∙ sym (length-map xs Num)
numbers_length (Characters []) zs e = let s : zs ≡ [] = cc in ap length s
numbers_length (Characters (c ∷ cs)) zs e = absurd (cc)

-- the whole axis
pub whole_full : (p : Places) (n : ℕ) → p ≡ record { shape = n ∷ []; places = range_with_len 0 n } → length p.places ≡ size_of p.shape
whole_full p n e = ap (λ (q : Places). length q.places) e ∙ length-range_with_len 0 n ∙ one n ∙ sym (ap (λ (q : Places). size_of q.shape) e)
  where
    one : (n : ℕ) → n ≡ n * 1
    one n = omega arith

pub whole_within : (p : Places) (n : ℕ) → p ≡ record { shape = n ∷ []; places = range_with_len 0 n } → All (λ k. k < n) p.places
whole_within p n e = let s : p.places ≡ range_with_len 0 n = ap (λ (q : Places). q.places) e in rw s (all_from (λ k. k < n) (range_with_len 0 n) (range_below 0 n n (omega arith)))

picked_rest : (shape : List ℕ) (slots : List (Option Arr)) (k origin : ℕ) (d : Option Arr) → k < length shape → k < length slots →
    all_picked (drop k shape) origin (drop k slots)
    ≡ and_then (picked_by (get_or shape k 0) origin (get_or slots k d)) (λ p. ok_map (λ ps. p ∷ ps) (all_picked (drop (k + 1) shape) origin (drop (k + 1) slots)))
picked_rest shape slots k origin d h g =
    ap (λ l. all_picked l origin (drop k slots)) (rest_of shape k h) ∙ ap (λ l. all_picked (get_or shape k 0 ∷ drop (k + 1) shape) origin l) (rest_from slots k d g)

-- one slot more, and one that is at fault
pub picked_step : (shape : List ℕ) (slots : List (Option Arr)) (k origin : ℕ) (d : Option Arr) (p : Places) (ps news : List Places) → k < length shape → k < length slots →
    picked_by (get_or shape k 0) origin (get_or slots k d) ≡ Ok p → news ≡ ps ++ p ∷ [] →
    after news (all_picked (drop (k + 1) shape) origin (drop (k + 1) slots)) ≡ after ps (all_picked (drop k shape) origin (drop k slots))
picked_step shape slots k origin d p ps news h g e f =
    ap (λ l. after l (all_picked (drop (k + 1) shape) origin (drop (k + 1) slots))) f
    ∙ after_one ps p (all_picked (drop (k + 1) shape) origin (drop (k + 1) slots))
    ∙ sym (ap (after ps) (picked_rest shape slots k origin d h g ∙ ap (λ r. and_then r (λ p. ok_map (λ ps. p ∷ ps) (all_picked (drop (k + 1) shape) origin (drop (k + 1) slots)))) e))

-- the end of all axes
pub picked_end : (shape : List ℕ) (slots : List (Option Arr)) (k origin : ℕ) (ps : List Places) → length shape ≤ k → after ps (all_picked (drop k shape) origin (drop k slots)) ≡ Ok ps
picked_end shape slots k origin ps h = ap (λ (s : List ℕ). after ps (all_picked s origin (drop k slots))) (drop_all k shape h) ∙ ap (λ (l : List Places). Ok l) (append-nil ps)

pub picked_fault : (shape : List ℕ) (slots : List (Option Arr)) (k origin : ℕ) (d : Option Arr) (x : Fault) (ps : List Places) → k < length shape → k < length slots →
    picked_by (get_or shape k 0) origin (get_or slots k d) ≡ Err x → after ps (all_picked (drop k shape) origin (drop k slots)) ≡ Err x
picked_fault shape slots k origin d x ps h g e =
    ap (after ps) (picked_rest shape slots k origin d h g ∙ ap (λ r. and_then r (λ p. ok_map (λ ps. p ∷ ps) (all_picked (drop (k + 1) shape) origin (drop (k + 1) slots)))) e)

on_axes_one : (shape : List ℕ) (k : ℕ) (ps : List Places) (p : Places) → k < length shape → AreOnAxes (take k shape) ps → length p.places ≡ size_of p.shape → All (λ j. j < get_or shape k 0) p.places →
    AreOnAxes (take (suc k) shape) (ps ++ p ∷ [])
on_axes_one [] k ps p l f full within = absurd (omega arith)
on_axes_one (n ∷ ns) zero [] p l f full within = (full, within, tt)
on_axes_one (n ∷ ns) zero (q ∷ ps) p l f full within = absurd f
on_axes_one (n ∷ ns) (suc k) [] p l f full within = absurd f
on_axes_one (n ∷ ns) (suc k) (q ∷ ps) p l f full within = (f.0, f.1, on_axes_one ns k ps p (omega arith) f.2 full within)

pub on_axes_more : (shape : List ℕ) (k : ℕ) (ps news : List Places) (p : Places) → k < length shape → AreOnAxes (take k shape) ps → news ≡ ps ++ p ∷ [] →
    length p.places ≡ size_of p.shape → All (λ j. j < get_or shape k 0) p.places → AreOnAxes (take (k + 1) shape) news
on_axes_more shape k ps news p l f e full within = rw (e, add-one) (on_axes_one shape k ps p l f full within)
