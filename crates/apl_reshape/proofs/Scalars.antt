-- What is left of a scalar in axes of length 1.
use Rattle.std.proofs.Common.{suc, zero, pos, ◌≡◌, ℕ, ℤ, ◌+◌, ◌-◌, ◌*◌, ◌%◌, ◌<◌, Bool, true, false, nat_lt, cond, max, min, List, [], ◌∷◌, map, length, replicate, get_or, unsigned_abs, refl, ap, sym, ◌∙◌, arith}
use Rattle.std.specs.Int.{is_negative}
use Rattle.std.specs.List.{range_with_len}
use Rattle.std.proofs.lemmas.List.{length-map, length-replicate}
use Rattle.std.proofs.lemmas.Nat.{mod_below}
use Rattle.apl_arrays.specs.declared.cell.Cell.TheVariants.{Num, Char}
use Rattle.apl_arrays.specs.Cells.{Arr, Items, Numbers, Characters, cells_of}
use Rattle.apl_arrays.specs.Index.{size_of, bound_of, indices, is_within, position_in}
use Rattle.apl_arrays.specs.Views.{picked}
use Rattle.apl_arrays.proofs.InOrder.{map_same}
use Rattle.apl_arrays.proofs.Order.{all_within, map_by_places}
use Rattle.apl_arrays.proofs.Places.{both, within_head}
use Rattle.apl_reshape.specs.Reshape.{item_round, taken_round}
use Rattle.apl_reshape.specs.Take.{added, dropped_by, each_axis, left_from, left_length, widened}
use Rattle.apl_reshape.proofs.Axes.{length-each}

-- lengths that are left of axes of length 1
pub bound-left : (n : ℕ) (zs : List ℤ) → bound_of (each_axis left_length (replicate n 1) zs) ≡ 1
bound-left zero zs = refl
bound-left (suc n) [] = refl
bound-left (suc n) (z ∷ zs) = one (unsigned_abs z) (bound_of (each_axis left_length (replicate n 1) zs)) (bound-left n zs)
  where
    one : (w b : ℕ) → b ≡ 1 → max (1 - w) 1 * b ≡ 1
    one w b e = rw e (omega arith)

pub length-left : (n : ℕ) (zs : List ℤ) → n ≡ length zs → length (each_axis left_length (replicate n 1) zs) ≡ n
length-left n zs e = length-each left_length (replicate n 1) zs (length-replicate n 1 ∙ e) ∙ length-replicate n 1

-- the scalar's one element is the one at each index list that is left
only_place : (n : ℕ) (zs : List ℤ) (i : List ℕ) → is_within (each_axis left_length (replicate n 1) zs) i ≡ true → position_in (replicate n 1) (added (each_axis left_from (replicate n 1) zs) i) ≡ 0
only_place zero zs i w = refl
only_place (suc n) [] [] w = refl
only_place (suc n) [] (i ∷ is) w = absurd (cc)
only_place (suc n) (z ∷ zs) [] w = absurd (cc)
only_place (suc n) (z ∷ zs) (i ∷ is) w =
    first (is_negative z) i (unsigned_abs z) (size_of (replicate n 1)) (position_in (replicate n 1) (added (each_axis left_from (replicate n 1) zs) is))
    (within_head (1 - unsigned_abs z) i (each_axis left_length (replicate n 1) zs) is w)
    (only_place n zs is (both (nat_lt i (1 - unsigned_abs z)) (is_within (each_axis left_length (replicate n 1) zs) is) w).1)
  where
    first : (b : Bool) (i w s p : ℕ) → i < 1 - w → p ≡ 0 → (i + cond b 0 (min w 1)) * s + p ≡ 0
    first true i w s p h e = let none : i + 0 ≡ 0 = omega arith in rw (none, e) (omega arith)
    first false i w s p h e = let none : i + min w 1 ≡ 0 = omega arith in rw (none, e) (omega arith)

only_list : {A : Type 0} (n : ℕ) (zs : List ℤ) (xs : List A) (d fill : A) → length xs ≡ 1 →
    map (λ i. get_or xs (position_in (replicate n 1) (added (each_axis left_from (replicate n 1) zs) i)) d) (indices (each_axis left_length (replicate n 1) zs))
    ≡ map (item_round xs fill) (range_with_len 0 (size_of (each_axis left_length (replicate n 1) zs)))
only_list n zs [] d fill e = absurd (omega arith)
only_list n zs (x ∷ y ∷ xs) d fill e = absurd (omega arith)
only_list {A = A} n zs (x ∷ []) d fill e =
    map_same (λ i. is_within lens i ≡ true) (λ i. get_or (x ∷ []) (position_in (replicate n 1) (added (each_axis left_from (replicate n 1) zs) i)) d) (λ i. item_round (x ∷ []) fill (position_in lens i)) here (indices lens) (all_within lens)
    ∙ map_by_places lens (item_round (x ∷ []) fill)
  where
    lens : List ℕ
    lens = each_axis left_length (replicate n 1) zs

    none : (k : ℕ) → k % 1 ≡ 0
    none k = omega (arith, mod_below k 1 (omega arith))

    here : (i : List ℕ) → is_within lens i ≡ true → get_or (x ∷ []) (position_in (replicate n 1) (added (each_axis left_from (replicate n 1) zs) i)) d ≡ item_round (x ∷ []) fill (position_in lens i)
    here i w = ap (λ (p : ℕ). get_or (x ∷ []) p d) (only_place n zs i w) ∙ sym (ap (λ (p : ℕ). get_or (x ∷ []) p fill) (none (position_in lens i)))

only_items : (n : ℕ) (zs : List ℤ) (items : Items) → length (cells_of items) ≡ 1 →
    picked items (λ i. position_in (replicate n 1) (added (each_axis left_from (replicate n 1) zs) i)) (indices (each_axis left_length (replicate n 1) zs))
    ≡ taken_round (size_of (each_axis left_length (replicate n 1) zs)) items
only_items n zs (Numbers xs) e = ap (λ (l : List ℤ). Numbers l) (only_list n zs xs (pos 0) (pos 0) (sym (length-map xs Num) ∙ e))
only_items n zs (Characters cs) e = ap (λ (l : List ℕ). Characters l) (only_list n zs cs 0 32 (sym (length-map cs Char) ∙ e))

-- a scalar's elements are taken round in the lengths that are left
pub left_of_one : (b : Arr) (zs : List ℤ) (lens : List ℕ) (n : ℕ) → n ≡ length zs → length b.shape ≡ 0 → length (cells_of b.items) ≡ size_of b.shape → lens ≡ each_axis left_length (replicate n 1) zs →
    record { shape = lens; items = taken_round (size_of lens) b.items } ≡ dropped_by zs (widened (length zs) b)
left_of_one b zs lens n m none full e = at b.shape none full
  where
    at : (s : List ℕ) → length s ≡ 0 → length (cells_of b.items) ≡ size_of s → record { shape = lens; items = taken_round (size_of lens) b.items } ≡ dropped_by zs (widened (length zs) (record { shape = s; items = b.items }))
    at [] h full =
        ap (λ (s : List ℕ). record { shape = s; items = taken_round (size_of s) b.items }) (e ∙ ap (λ (k : ℕ). each_axis left_length (replicate k 1) zs) m)
        ∙ ap (λ (i : Items). record { shape = each_axis left_length (replicate (length zs) 1) zs; items = i }) (sym (only_items (length zs) zs b.items full))
    at (k ∷ s) h full = absurd (omega arith)
