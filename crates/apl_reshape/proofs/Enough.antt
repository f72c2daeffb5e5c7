-- What is taken where there are enough elements is a part of the array.
use Rattle.std.proofs.Common.{suc, zero, pos, ◌≡◌, ◌≢◌, ℕ, ℤ, ◌+◌, ◌-◌, ◌<◌, ◌≤◌, ◌&&◌, Bool, true, false, nat_le, nat_lt, cond, List, [], ◌∷◌, map, length, drop, get_or, unsigned_abs, refl, ap, sym, subst, ◌∙◌, arith}
use Rattle.std.specs.Int.{is_negative}
use Rattle.std.proofs.lemmas.Bool.{le-leb, leb-true, ltb-true}
use Rattle.std.proofs.lemmas.List.{get_or_default, length-map, drop_all}
use Rattle.apl_arrays.specs.declared.cell.Cell.TheVariants.{Num, Char}
use Rattle.apl_arrays.specs.Cells.{Arr, Items, Numbers, Characters, cells_of}
use Rattle.apl_arrays.specs.Index.{size_of, indices, is_within, position_in}
use Rattle.apl_arrays.specs.Views.{picked}
use Rattle.apl_arrays.proofs.InOrder.{map_same}
use Rattle.apl_arrays.proofs.Order.{all_within, within_cons}
use Rattle.apl_arrays.proofs.Places.{both, position_in-lt, rest_of}
use Rattle.apl_reshape.specs.inside.Asked.{has_enough, taken_start}
use Rattle.apl_reshape.specs.Take.{added, each_axis, element_or, found_or_filled, on_axes, part, place_taken, taken_by, taken_index, widened, with_axes}

-- whether there are enough, an axis at a time
pub enough_step : (s l : List ℕ) (k : ℕ) → k < length s → k < length l → get_or l k 0 ≤ get_or s k 0 → has_enough (drop (k + 1) s) (drop (k + 1) l) ≡ has_enough (drop k s) (drop k l)
enough_step s l k h g e = sym (rw (rest_of s k h, rest_of l k g) (ap (λ b. b && has_enough (drop (k + 1) s) (drop (k + 1) l)) (le-leb (get_or l k 0) (get_or s k 0) e)))

pub enough_end : (s l : List ℕ) (k : ℕ) → length s ≤ k → length l ≤ k → has_enough (drop k s) (drop k l) ≡ true
enough_end s l k h g = rw (drop_all k s h, drop_all k l g) refl

pub enough_axes : (s l : List ℕ) → has_enough s l ≡ true → length s ≡ length l
enough_axes [] [] h = refl
enough_axes [] (m ∷ l) h = absurd (cc)
enough_axes (n ∷ s) [] h = absurd (cc)
enough_axes (n ∷ s) (m ∷ l) h = omega (arith, enough_axes s l (both (nat_le m n) (has_enough s l) h).1)

pub not_enough_axes : (s l : List ℕ) → length s ≢ length l → has_enough s l ≡ false
not_enough_axes s l ne = at (has_enough s l) refl
  where
    at : (b : Bool) → has_enough s l ≡ b → b ≡ false
    at true e = absurd (ne (enough_axes s l e))
    at false e = refl

-- an operand with as many axes stays
pub same_axes : (n : ℕ) (s : List ℕ) → length s ≡ n → with_axes n s ≡ s
same_axes zero [] e = refl
same_axes (suc n) [] e = absurd (omega arith)
same_axes n (m ∷ s) e = refl

-- what is taken of an axis lies on it
pub taken_within : (s : List ℕ) (zs : List ℤ) (k : ℕ) → has_enough s (map unsigned_abs zs) ≡ true → k < length s → get_or (each_axis taken_start s zs) k 0 + get_or (map unsigned_abs zs) k 0 ≤ get_or s k 0
taken_within [] zs k h l = absurd (omega arith)
taken_within (n ∷ s) [] k h l = absurd (cc)
taken_within (n ∷ s) (z ∷ zs) zero h l = at (is_negative z) (leb-true (unsigned_abs z) n (both (nat_le (unsigned_abs z) n) (has_enough s (map unsigned_abs zs)) h).0)
  where
    at : (b : Bool) → unsigned_abs z ≤ n → cond b (n - unsigned_abs z) 0 + unsigned_abs z ≤ n
    at true e = omega arith
    at false e = omega arith
taken_within (n ∷ s) (z ∷ zs) (suc k) h l = taken_within s zs k (both (nat_le (unsigned_abs z) n) (has_enough s (map unsigned_abs zs)) h).1 (omega arith)

-- the element that is taken for an index stands as far behind the start
index_taken : (n : ℕ) (z : ℤ) (i : ℕ) → unsigned_abs z ≤ n → i < unsigned_abs z → (taken_index n z i ≡ i + taken_start n z) × (i + taken_start n z < n)
index_taken n z i h l = at (is_negative z)
  where
    at : (b : Bool) → (place_taken b n (unsigned_abs z) i ≡ i + cond b (n - unsigned_abs z) 0) × (i + cond b (n - unsigned_abs z) 0 < n)
    at true = (ap (λ (c : Bool). cond c (i + n - unsigned_abs z) n) (le-leb (unsigned_abs z) (i + n) (omega arith)) ∙ behind (unsigned_abs z) n i h, omega arith)
      where
        behind : (w n i : ℕ) → w ≤ n → i + n - w ≡ i + (n - w)
        behind w n i h = omega arith
    at false = (omega arith, omega arith)

list_taken : (s : List ℕ) (zs : List ℤ) (i : List ℕ) → has_enough s (map unsigned_abs zs) ≡ true → is_within (map unsigned_abs zs) i ≡ true →
    (on_axes taken_index s zs i ≡ added (each_axis taken_start s zs) i) × (is_within s (on_axes taken_index s zs i) ≡ true)
list_taken [] [] [] h w = (refl, refl)
list_taken [] [] (i ∷ is) h w = absurd (cc)
list_taken [] (z ∷ zs) i h w = absurd (cc)
list_taken (n ∷ s) [] i h w = absurd (cc)
list_taken (n ∷ s) (z ∷ zs) [] h w = absurd (cc)
list_taken (n ∷ s) (z ∷ zs) (i ∷ is) h w =
    let p = both (nat_le (unsigned_abs z) n) (has_enough s (map unsigned_abs zs)) h in
    let q = both (nat_lt i (unsigned_abs z)) (is_within (map unsigned_abs zs) is) w in
    let one = index_taken n z i (leb-true (unsigned_abs z) n p.0) (ltb-true i (unsigned_abs z) q.0) in
    let others = list_taken s zs is p.1 q.1 in (
      ap (λ (k : ℕ). k ∷ on_axes taken_index s zs is) one.0 ∙ ap (λ (l : List ℕ). (i + taken_start n z) ∷ l) others.0,
      within_cons n (taken_index n z i) s (on_axes taken_index s zs is) (omega (arith, one.0, one.1)) others.1,
    )

element_taken : {A : Type 0} (s : List ℕ) (zs : List ℤ) (xs : List A) (fill d : A) → length xs ≡ size_of s → has_enough s (map unsigned_abs zs) ≡ true →
    map (λ i. get_or xs (position_in s (added (each_axis taken_start s zs) i)) d) (indices (map unsigned_abs zs)) ≡ map (λ i. element_or s xs fill (on_axes taken_index s zs i)) (indices (map unsigned_abs zs))
element_taken s zs xs fill d full h =
    sym (map_same (λ i. is_within (map unsigned_abs zs) i ≡ true) (λ i. element_or s xs fill (on_axes taken_index s zs i)) (λ i. get_or xs (position_in s (added (each_axis taken_start s zs) i)) d)
    here (indices (map unsigned_abs zs)) (all_within (map unsigned_abs zs)))
  where
    here : (i : List ℕ) → is_within (map unsigned_abs zs) i ≡ true → element_or s xs fill (on_axes taken_index s zs i) ≡ get_or xs (position_in s (added (each_axis taken_start s zs) i)) d
    here i w =
        let t = list_taken s zs i h w in
        ap (λ (b : Bool). cond b (get_or xs (position_in s (on_axes taken_index s zs i)) fill) fill) t.1
        ∙ get_or_default xs (position_in s (on_axes taken_index s zs i)) fill d (omega (arith, position_in-lt s (on_axes taken_index s zs i) t.1))
        ∙ ap (λ (j : List ℕ). get_or xs (position_in s j) d) t.0

items_taken : (s : List ℕ) (zs : List ℤ) (items : Items) → length (cells_of items) ≡ size_of s → has_enough s (map unsigned_abs zs) ≡ true →
    picked items (λ i. position_in s (added (each_axis taken_start s zs) i)) (indices (map unsigned_abs zs)) ≡ found_or_filled s items (on_axes taken_index s zs) (indices (map unsigned_abs zs))
items_taken s zs (Numbers xs) full h = ap (λ (l : List ℤ). Numbers l) (element_taken s zs xs (pos 0) (pos 0) (sym (length-map xs Num) ∙ full) h)
items_taken s zs (Characters cs) full h = ap (λ (l : List ℕ). Characters l) (element_taken s zs cs 32 0 (sym (length-map cs Char) ∙ full) h)

-- what is taken is a part
pub taken_part : (b : Arr) (zs : List ℤ) (starts lens : List ℕ) → starts ≡ each_axis taken_start b.shape zs → lens ≡ map unsigned_abs zs → length (cells_of b.items) ≡ size_of b.shape → has_enough b.shape lens ≡ true →
    part starts lens b ≡ taken_by zs (widened (length zs) b)
taken_part b zs starts lens e f full h =
    ap (λ (l : List ℕ). part l lens b) e
    ∙ ap (λ (l : List ℕ). part (each_axis taken_start b.shape zs) l b) f
    ∙ ap (λ (i : Items). record { shape = map unsigned_abs zs; items = i }) (items_taken b.shape zs b.items full enough)
    ∙ ap (λ (s : List ℕ). taken_by zs (record { shape = s; items = b.items })) (sym (same_axes (length zs) b.shape (enough_axes b.shape (map unsigned_abs zs) enough ∙ length-map zs unsigned_abs)))
  where
    enough : has_enough b.shape (map unsigned_abs zs) ≡ true
    enough = let P : List ℕ → Type 0 = λ l. has_enough b.shape l ≡ true in subst P f h

pub fits_taken : (fs ls s : List ℕ) (zs : List ℤ) → fs ≡ each_axis taken_start s zs → ls ≡ map unsigned_abs zs → has_enough s ls ≡ true → (k : ℕ) → k < length s → get_or fs k 0 + get_or ls k 0 ≤ get_or s k 0
fits_taken fs ls s zs e f h k l = rw (e, f) (taken_within s zs k (let P : List ℕ → Type 0 = λ t. has_enough s t ≡ true in subst P f h) l)
