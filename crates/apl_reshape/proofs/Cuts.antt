-- Parts of an array, cut axis by axis.
use Rattle.std.proofs.Common.{suc, zero, pos, ◌≡◌, ℕ, ℤ, ◌+◌, ◌<◌, ◌≤◌, true, nat_lt, List, [], ◌∷◌, ◌++◌, map, length, take, drop, get_or, refl, ap, sym, ◌∙◌, arith, append-nil}
use Rattle.std.proofs.lemmas.List.{take_all, length-map, drop_all}
use Rattle.std.proofs.lemmas.List.FromFn.{fill_by_all}
use Rattle.apl_arrays.specs.declared.cell.Cell.TheVariants.{Num, Char}
use Rattle.apl_arrays.specs.Index.{size_of, indices, is_within, position_in}
use Rattle.apl_arrays.specs.Cells.{Arr, Items, Numbers, Characters, cells_of}
use Rattle.apl_arrays.specs.Views.{on_axis, picked, cut}
use Rattle.apl_arrays.proofs.Places.{both, within_head}
use Rattle.apl_arrays.proofs.Order.{all_within, map_by_places, within_cons}
use Rattle.apl_arrays.proofs.InOrder.{map_same}
use Rattle.apl_arrays.proofs.AtPlace.{at_place}
use Rattle.apl_reshape.specs.Take.{added, part}

-- all elements in their order
whole_list : {A : Type 0} (xs : List A) (d : A) (s : List ℕ) → length xs ≡ size_of s → map (λ i. get_or xs (position_in s i) d) (indices s) ≡ xs
whole_list xs d s h = map_by_places s (λ p. get_or xs p d) ∙ sym (fill_by_all (λ p. get_or xs p d) xs (size_of s) d h (λ k l. refl))

whole_items : (items : Items) (s : List ℕ) → length (cells_of items) ≡ size_of s → picked items (position_in s) (indices s) ≡ items
whole_items (Numbers zs) s h = ap (λ (l : List ℤ). Numbers l) (whole_list zs (pos 0) s (sym (length-map zs Num) ∙ h))
whole_items (Characters cs) s h = ap (λ (l : List ℕ). Characters l) (whole_list cs 0 s (sym (length-map cs Char) ∙ h))

-- nothing cut
pub part_none : (b : Arr) → length (cells_of b.items) ≡ size_of b.shape → part [] b.shape b ≡ b
part_none b h = ap (λ (i : Items). record { shape = b.shape; items = i }) (whole_items b.items b.shape h)

-- elements picked of those that are picked
picked_twice : (items : Items) (place : List ℕ → ℕ) (s t : List ℕ) (g : List ℕ → List ℕ) (other : List ℕ → ℕ) → ((i : List ℕ) → is_within t i ≡ true → is_within s (g i) ≡ true) → ((i : List ℕ) → is_within t i ≡ true → place (g i) ≡ other i) →
    picked (picked items place (indices s)) (λ i. position_in s (g i)) (indices t) ≡ picked items other (indices t)
picked_twice (Numbers zs) place s t g other w e =
    ap (λ (l : List ℤ). Numbers l)
    (map_same (λ i. is_within t i ≡ true) (λ i. get_or (map (λ i. get_or zs (place i) (pos 0)) (indices s)) (position_in s (g i)) (pos 0)) (λ i. get_or zs (other i) (pos 0))
    (λ i v. at_place (λ i. get_or zs (place i) (pos 0)) (pos 0) s (g i) (w i v) ∙ ap (λ (p : ℕ). get_or zs p (pos 0)) (e i v)) (indices t) (all_within t))
picked_twice (Characters cs) place s t g other w e =
    ap (λ (l : List ℕ). Characters l)
    (map_same (λ i. is_within t i ≡ true) (λ i. get_or (map (λ i. get_or cs (place i) 0) (indices s)) (position_in s (g i)) 0) (λ i. get_or cs (other i) 0)
    (λ i v. at_place (λ i. get_or cs (place i) 0) 0 s (g i) (w i v) ∙ ap (λ (p : ℕ). get_or cs p 0) (e i v)) (indices t) (all_within t))

-- an index list within the cut shape leads to one within the shape
within_cut : (s : List ℕ) (k f l : ℕ) (i : List ℕ) → k < length s → f + l ≤ get_or s k 0 → is_within (on_axis k (λ n. l) s) i ≡ true → is_within s (on_axis k (λ j. j + f) i) ≡ true
within_cut [] k f l i h g w = absurd (omega arith)
within_cut (n ∷ s) zero f l [] h g w = absurd (cc)
within_cut (n ∷ s) zero f l (i ∷ is) h g w = within_cons n (i + f) s is (less i l f n (within_head l i s is w) g) (both (nat_lt i l) (is_within s is) w).1
  where
    less : (i l f n : ℕ) → i < l → f + l ≤ n → i + f < n
    less i l f n h g = omega arith
within_cut (n ∷ s) (suc k) f l [] h g w = absurd (cc)
within_cut (n ∷ s) (suc k) f l (i ∷ is) h g w =
    within_cons n i s (on_axis k (λ j. j + f) is) (within_head n i (on_axis k (λ n. l) s) is w) (within_cut s k f l is (omega arith) g (both (nat_lt i n) (is_within (on_axis k (λ n. l) s) is) w).1)

-- one axis more
added_next : (fs s : List ℕ) (k l : ℕ) (i : List ℕ) → k < length fs → k < length s → is_within (on_axis k (λ n. l) s) i ≡ true → added (take k fs) (on_axis k (λ j. j + get_or fs k 0) i) ≡ added (take (suc k) fs) i
added_next [] s k l i h g w = absurd (omega arith)
added_next (f ∷ fs) [] k l i h g w = absurd (omega arith)
added_next (f ∷ fs) (n ∷ s) zero l [] h g w = absurd (cc)
added_next (f ∷ fs) (n ∷ s) zero l (i ∷ is) h g w = refl
added_next (f ∷ fs) (n ∷ s) (suc k) l [] h g w = absurd (cc)
added_next (f ∷ fs) (n ∷ s) (suc k) l (i ∷ is) h g w =
    ap (λ (t : List ℕ). (i + f) ∷ t) (added_next fs s k l is (omega arith) (omega arith) (both (nat_lt i n) (is_within (on_axis k (λ n. l) s) is) w).1)

lens_next : (ls s : List ℕ) (k : ℕ) → k < length ls → k < length s → on_axis k (λ n. get_or ls k 0) (take k ls ++ drop k s) ≡ take (suc k) ls ++ drop (suc k) s
lens_next [] s k h g = absurd (omega arith)
lens_next (l ∷ ls) [] k h g = absurd (omega arith)
lens_next (l ∷ ls) (n ∷ s) zero h g = refl
lens_next (l ∷ ls) (n ∷ s) (suc k) h g = ap (λ (t : List ℕ). l ∷ t) (lens_next ls s k (omega arith) (omega arith))

pub lens_at : (ls s : List ℕ) (k : ℕ) → k < length ls → k < length s → get_or (take k ls ++ drop k s) k 0 ≡ get_or s k 0
lens_at [] s k h g = absurd (omega arith)
lens_at (l ∷ ls) [] k h g = absurd (omega arith)
lens_at (l ∷ ls) (n ∷ s) zero h g = refl
lens_at (l ∷ ls) (n ∷ s) (suc k) h g = lens_at ls s k (omega arith) (omega arith)

pub lens_more : (ls s : List ℕ) (k : ℕ) → k < length ls → k < length s → k < length (take k ls ++ drop k s)
lens_more [] s k h g = absurd (omega arith)
lens_more (l ∷ ls) [] k h g = absurd (omega arith)
lens_more (l ∷ ls) (n ∷ s) zero h g = omega arith
lens_more (l ∷ ls) (n ∷ s) (suc k) h g = omega (arith, lens_more ls s k (omega arith) (omega arith))

pub part_more : (b v w : Arr) (fs ls : List ℕ) (k : ℕ) → k < length fs → k < length ls → k < length b.shape → get_or fs k 0 + get_or ls k 0 ≤ get_or b.shape k 0 →
    v ≡ part (take k fs) (take k ls ++ drop k b.shape) b → w ≡ cut k (get_or fs k 0) (get_or ls k 0) v → w ≡ part (take (k + 1) fs) (take (k + 1) ls ++ drop (k + 1) b.shape) b
part_more b v w fs ls k hf hl hs g e f =
    f
    ∙ ap (cut k (get_or fs k 0) (get_or ls k 0)) e
    ∙ ap (λ (i : Items). record { shape = on_axis k (λ n. get_or ls k 0) s; items = i })
    (picked_twice b.items (λ i. position_in b.shape (added (take k fs) i)) s (on_axis k (λ n. get_or ls k 0) s) (on_axis k (λ j. j + get_or fs k 0)) (λ i. position_in b.shape (added (take (suc k) fs) i))
    (λ i u. within_cut s k (get_or fs k 0) (get_or ls k 0) i long enough u)
    (λ i u. ap (position_in b.shape) (added_next fs s k (get_or ls k 0) i hf long u)))
    ∙ ap (λ (t : List ℕ). part (take (suc k) fs) t b) (lens_next ls b.shape k hl hs)
    ∙ ap (λ (m : ℕ). part (take m fs) (take m ls ++ drop m b.shape) b) (next k)
  where
    s : List ℕ
    s = take k ls ++ drop k b.shape

    long : k < length s
    long = lens_more ls b.shape k hl hs

    enough : get_or fs k 0 + get_or ls k 0 ≤ get_or s k 0
    enough = rw (lens_at ls b.shape k hl hs) g

    next : (k : ℕ) → suc k ≡ k + 1
    next k = omega arith

-- all axes cut
pub part_all : (b v : Arr) (fs ls : List ℕ) (k : ℕ) → length b.shape ≤ k → length fs ≡ length b.shape → length ls ≡ length b.shape →
    v ≡ part (take k fs) (take k ls ++ drop k b.shape) b → v ≡ part fs ls b
part_all b v fs ls k h e f g =
    g
    ∙ ap (λ (l : List ℕ). part l (take k ls ++ drop k b.shape) b) (take_all k fs (omega arith))
    ∙ ap (λ (l : List ℕ). part fs (l ++ drop k b.shape) b) (take_all k ls (omega arith))
    ∙ ap (λ (l : List ℕ). part fs (ls ++ l) b) (drop_all k b.shape h)
    ∙ ap (λ (l : List ℕ). part fs l b) (append-nil ls)
