-- What taking and dropping give along one axis.
use Rattle.std.proofs.Common.{suc, zero, ◌≡◌, ℕ, ℤ, pos, ◌+◌, ◌-◌, ◌<◌, ◌≤◌, min, nat_le, Bool, true, false, cond, List, [], ◌∷◌, map, length, get_or, Result, Ok, refl, ap, sym, ◌∙◌, arith}
use Rattle.std.specs.Prelude.{unsigned_abs}
use Rattle.std.specs.Int.{is_negative}
use Rattle.std.proofs.lemmas.Bool.{le-leb, le-ltb}
use Rattle.std.proofs.lemmas.List.{length-map}
use Rattle.apl_faults.specs.declared.fault.Fault.{Fault}
use Rattle.apl_faults.specs.declared.fault.Fault.TheVariants.{Limit}
use Rattle.apl_arrays.specs.declared.cell.Cell.TheVariants.{Num, Char}
use Rattle.apl_arrays.specs.Cells.{Arr, Items, Numbers, Characters, cells_of}
use Rattle.apl_arrays.specs.Checks.{demand, is_limited, limited}
use Rattle.apl_arrays.specs.Index.{indices, is_within, position_in, size_of}
use Rattle.apl_arrays.specs.Results.{and_then, ok_map}
use Rattle.apl_arrays.specs.Views.{on_axis, picked, selected}
use Rattle.apl_arrays.proofs.InOrder.{map_same}
use Rattle.apl_arrays.proofs.Order.{all_within}
use Rattle.apl_arrays.proofs.Places.{position_in-lt}
use Rattle.apl_reshape.specs.Take.{added, dropped, dropped_by, each_axis, element_or, left_from, left_length, on_axes, part, place_from_end, taken, taken_by, taken_for, taken_index, widened, with_axes}
use Rattle.apl_structure_laws.specs.Catenations.{Counts, alone}
use Rattle.apl_structure_laws.proofs.Axes.{length-on_axis, length-within}

-- ---- any operand

with_axes-stays : (n : ℕ) (s : List ℕ) → 0 < length s → with_axes n s ≡ s
with_axes-stays n [] h = absurd (omega arith)
with_axes-stays n (m ∷ s) h = refl

widened-stays : (n : ℕ) (b : Arr) → 0 < length b.shape → widened n b ≡ b
widened-stays n b h = ap (λ (s : List ℕ). record { shape = s; items = b.items }) (with_axes-stays n b.shape h)

pub magnitudes : (t : List ℕ) → map unsigned_abs (map pos t) ≡ t
magnitudes [] = refl
magnitudes (n ∷ t) = ap (λ l. n ∷ l) (magnitudes t)

-- an item within the list is the same whatever stands for those beyond
pub get_or-any : {A : Type 0} (xs : List A) (p : ℕ) (d e : A) → p < length xs → get_or xs p d ≡ get_or xs p e
get_or-any [] p d e h = absurd (omega arith)
get_or-any (x ∷ xs) zero d e h = refl
get_or-any (x ∷ xs) (suc p) d e h = get_or-any xs p d e (omega arith)

-- ---- taking without fills

pub not_negative : (n : ℕ) → is_negative (pos n) ≡ false
not_negative n = le-ltb n 0 (omega arith)

on_axes-taken : (s t i : List ℕ) → length t ≡ length s → length i ≡ length s → on_axes taken_index s (map pos t) i ≡ i
on_axes-taken [] t [] e f = refl
on_axes-taken [] t (i ∷ is) e f = absurd (omega arith)
on_axes-taken (n ∷ s) [] i e f = absurd (omega arith)
on_axes-taken (n ∷ s) (m ∷ t) [] e f = absurd (omega arith)
on_axes-taken (n ∷ s) (m ∷ t) (i ∷ is) e f =
    ap (λ (b : Bool). (cond b (place_from_end n m i) i) ∷ on_axes taken_index s (map pos t) is) (not_negative m)
    ∙ ap (λ (l : List ℕ). i ∷ l) (on_axes-taken s t is (omega arith) (omega arith))

element-there : {A : Type 0} (s : List ℕ) (xs : List A) (d e : A) (i : List ℕ) → is_within s i ≡ true → length xs ≡ size_of s → element_or s xs d i ≡ get_or xs (position_in s i) e
element-there s xs d e i w f =
    ap (λ (b : Bool). cond b (get_or xs (position_in s i) d) d) w ∙ get_or-any xs (position_in s i) d e (omega (arith, position_in-lt s i w))

taken-plain : (items : Items) (s t : List ℕ) → length (cells_of items) ≡ size_of s → length t ≡ length s → ((i : List ℕ) → is_within t i ≡ true → is_within s i ≡ true) →
    taken_for s (map pos t) items (indices t) ≡ picked items (λ i. position_in s i) (indices t)
taken-plain (Numbers zs) s t full e h =
    ap (λ l. Numbers l) (map_same (λ i. is_within t i ≡ true) (λ i. element_or s zs (pos 0) (on_axes taken_index s (map pos t) i)) (λ i. get_or zs (position_in s i) (pos 0))
    (λ i w. ap (element_or s zs (pos 0)) (on_axes-taken s t i e (length-within s i (h i w))) ∙ element-there s zs (pos 0) (pos 0) i (h i w) (sym (length-map zs Num) ∙ full))
    (indices t) (all_within t))
taken-plain (Characters cs) s t full e h =
    ap (λ l. Characters l) (map_same (λ i. is_within t i ≡ true) (λ i. element_or s cs 32 (on_axes taken_index s (map pos t) i)) (λ i. get_or cs (position_in s i) 0)
    (λ i w. ap (element_or s cs 32) (on_axes-taken s t i e (length-within s i (h i w))) ∙ element-there s cs 32 0 i (h i w) (sym (length-map cs Char) ∙ full))
    (indices t) (all_within t))

-- the elements at the index lists of a shape that fits into the operand's
pub taken-front : (k b : Arr) (t : List ℕ) → length (cells_of b.items) ≡ size_of b.shape → 0 < length b.shape → length t ≡ length b.shape → ((i : List ℕ) → is_within t i ≡ true → is_within b.shape i ≡ true) →
    is_limited t ≡ true → Counts t b.shape k → taken k b ≡ Ok (selected b t (λ i. i))
taken-front k b t full some e h l c =
    ap (λ (r : Result (List ℤ) Fault). and_then r (λ zs. ok_map (λ ok. taken_by zs (widened (length zs) b)) (limited (map unsigned_abs zs)))) c
    ∙ ap (λ (u : List ℕ). ok_map (λ ok. taken_by (map pos t) (widened (length (map pos t)) b)) (limited u)) (magnitudes t)
    ∙ ap (λ (d : Bool). ok_map (λ ok. taken_by (map pos t) (widened (length (map pos t)) b)) (ok_map (λ u. t) (demand d Limit))) l
    ∙ ap (λ (x : Arr). Ok (taken_by (map pos t) x)) (widened-stays (length (map pos t)) b some)
    ∙ ap (λ (u : List ℕ). Ok (record { shape = u; items = taken_for b.shape (map pos t) b.items (indices u) })) (magnitudes t)
    ∙ ap (λ (items : Items). Ok (record { shape = t; items = items })) (taken-plain b.items b.shape t full e h)

-- ---- dropping along one axis

lengths-none : (s : List ℕ) → each_axis left_length s (map pos (map (λ m. 0) s)) ≡ s
lengths-none [] = refl
lengths-none (n ∷ s) = ap (λ x. x ∷ each_axis left_length s (map pos (map (λ m. 0) s))) (less n) ∙ ap (λ l. n ∷ l) (lengths-none s)
  where
    less : (n : ℕ) → n - 0 ≡ n
    less n = omega arith

lengths-alone : (k n : ℕ) (s : List ℕ) → each_axis left_length s (map pos (alone k n s)) ≡ on_axis k (λ m. m - n) s
lengths-alone k n [] = refl
lengths-alone zero n (m ∷ s) = ap (λ l. (m - n) ∷ l) (lengths-none s)
lengths-alone (suc k) n (m ∷ s) = ap (λ x. x ∷ each_axis left_length s (map pos (alone k n s))) (less m) ∙ ap (λ l. m ∷ l) (lengths-alone k n s)
  where
    less : (m : ℕ) → m - 0 ≡ m
    less m = omega arith

added-none : (s i : List ℕ) → length i ≡ length s → added (each_axis left_from s (map pos (map (λ m. 0) s))) i ≡ i
added-none [] i e = refl
added-none (n ∷ s) [] e = absurd (omega arith)
added-none (n ∷ s) (i ∷ is) e = ap (λ x. x ∷ added (each_axis left_from s (map pos (map (λ m. 0) s))) is) (more n i) ∙ ap (λ l. i ∷ l) (added-none s is (omega arith))
  where
    more : (n i : ℕ) → i + min 0 n ≡ i
    more n i = omega arith

added-alone : (k n : ℕ) (s i : List ℕ) → length i ≡ length s → n ≤ get_or s k 0 → added (each_axis left_from s (map pos (alone k n s))) i ≡ on_axis k (λ j. j + n) i
added-alone k n [] [] e h = refl
added-alone k n [] (i ∷ is) e h = absurd (omega arith)
added-alone k n (m ∷ s) [] e h = absurd (omega arith)
added-alone zero n (m ∷ s) (i ∷ is) e h =
    ap (λ (b : Bool). (i + cond b 0 (min n m)) ∷ added (each_axis left_from s (map pos (map (λ m. 0) s))) is) (not_negative n)
    ∙ ap (λ x. x ∷ added (each_axis left_from s (map pos (map (λ m. 0) s))) is) (more n m i h) ∙ ap (λ l. (i + n) ∷ l) (added-none s is (omega arith))
  where
    more : (n m i : ℕ) → n ≤ m → i + min n m ≡ i + n
    more n m i h = omega arith
added-alone (suc k) n (m ∷ s) (i ∷ is) e h = ap (λ x. x ∷ added (each_axis left_from s (map pos (alone k n s))) is) (more m i) ∙ ap (λ l. i ∷ l) (added-alone k n s is (omega arith) h)
  where
    more : (m i : ℕ) → i + min 0 m ≡ i
    more m i = omega arith

length-alone : (k n : ℕ) (s : List ℕ) → length (map pos (alone k n s)) ≡ length s
length-alone k n s = length-map (alone k n s) pos ∙ length-on_axis k (λ m. n) (map (λ m. 0) s) ∙ length-map s (λ m. 0)

picked-same : (items : Items) (s t : List ℕ) (g h : List ℕ → List ℕ) → ((i : List ℕ) → is_within t i ≡ true → g i ≡ h i) → picked items (λ i. position_in s (g i)) (indices t) ≡ picked items (λ i. position_in s (h i)) (indices t)
picked-same (Numbers zs) s t g h e = ap (λ l. Numbers l) (map_same (λ i. is_within t i ≡ true) (λ i. get_or zs (position_in s (g i)) (pos 0)) (λ i. get_or zs (position_in s (h i)) (pos 0)) (λ i w. ap (λ j. get_or zs (position_in s j) (pos 0)) (e i w)) (indices t) (all_within t))
picked-same (Characters cs) s t g h e = ap (λ l. Characters l) (map_same (λ i. is_within t i ≡ true) (λ i. get_or cs (position_in s (g i)) 0) (λ i. get_or cs (position_in s (h i)) 0) (λ i w. ap (λ j. get_or cs (position_in s j) 0) (e i w)) (indices t) (all_within t))

-- the elements behind the first n along an axis
pub dropped-rest : (l b : Arr) (k n : ℕ) → 0 < length b.shape → length b.shape ≤ 8 → n ≤ get_or b.shape k 0 → Counts (alone k n b.shape) b.shape l →
    dropped l b ≡ Ok (selected b (on_axis k (λ m. m - n) b.shape) (on_axis k (λ j. j + n)))
dropped-rest l b k n some few h c =
    let zs : List ℤ = map pos (alone k n b.shape) in
    let fits : length (map pos (alone k n b.shape)) ≤ 8 = omega (arith, length-alone k n b.shape) in
    ap (λ (r : Result (List ℤ) Fault). and_then r (λ zs. ok_map (λ ok. dropped_by zs (widened (length zs) b)) (demand (nat_le (length zs) 8) Limit))) c
    ∙ ap (λ (d : Bool). ok_map (λ ok. dropped_by zs (widened (length zs) b)) (demand d Limit)) (le-leb (length (map pos (alone k n b.shape))) 8 fits)
    ∙ ap (λ (x : Arr). Ok (dropped_by zs x)) (widened-stays (length zs) b some)
    ∙ ap (λ (u : List ℕ). Ok (part (each_axis left_from b.shape zs) u b)) (lengths-alone k n b.shape)
    ∙ ap (λ (items : Items). Ok (record { shape = on_axis k (λ m. m - n) b.shape; items = items }))
    (picked-same b.items b.shape (on_axis k (λ m. m - n) b.shape) (added (each_axis left_from b.shape zs)) (on_axis k (λ j. j + n))
    (λ i w. added-alone k n b.shape i (length-within (on_axis k (λ m. m - n) b.shape) i w ∙ length-on_axis k (λ m. m - n) b.shape) h))
