-- Taking, dropping and catenating undo one another.
use Rattle.std.proofs.Common.{◌≡◌, ℕ, pos, ◌+◌, ◌-◌, ◌<◌, ◌≤◌, ⊎_elim, Bool, true, false, cond, List, map, length, get_or, Result, Ok, refl, ap, sym, ◌∙◌, subst, arith}
use Rattle.std.proofs.lemmas.Bool.{cases_lt, le-ltb, lt-ltb}
use Rattle.std.proofs.lemmas.List.{length-map}
use Rattle.apl_faults.specs.declared.fault.Fault.{Fault}
use Rattle.apl_faults.specs.declared.fault.Fault.TheVariants.{Length, Limit}
use Rattle.apl_arrays.specs.declared.axis_choice.Along.{Along}
use Rattle.apl_arrays.specs.declared.cell.Cell.TheVariants.{Num, Char}
use Rattle.apl_arrays.specs.Along.{axis_along}
use Rattle.apl_arrays.specs.Axes.{without}
use Rattle.apl_arrays.specs.Cells.{Arr, Items, Numbers, Characters, cells_of}
use Rattle.apl_arrays.specs.Checks.{demand, is_limited, same}
use Rattle.apl_arrays.specs.Index.{bound_of, indices, is_within, position_in, size_of}
use Rattle.apl_arrays.specs.Kinds.{are_numbers}
use Rattle.apl_arrays.specs.Results.{and_then, ok_map}
use Rattle.apl_arrays.specs.Views.{on_axis, picked, selected}
use Rattle.apl_arrays.proofs.AtPlace.{at_place}
use Rattle.apl_arrays.proofs.Order.{length-indices}
use Rattle.apl_turns.proofs.Named.{axis_within}
use Rattle.apl_select.proofs.Overlay.{same_is}
use Rattle.apl_reshape.specs.Catenate.{catenated, joined_at, joined_shape}
use Rattle.apl_reshape.specs.Take.{dropped, taken}
use Rattle.apl_structure_laws.specs.Catenations.{AreJoined, Counts, DropsFirst, Rejoins, TakesFirst, alone}
use Rattle.apl_structure_laws.proofs.Axes.{bound-on_axis, get_or-on_axis, length-on_axis, limited-by, on_axis-on_axis, on_axis-stays, on_axis-to, same-refl, within-at, within-on_axis, without-on_axis, length-within}
use Rattle.apl_structure_laws.proofs.Fronts.{dropped-rest, taken-front}
use Rattle.apl_structure_laws.proofs.Joinings.{both, catenated-alike, if_limited, items_of_both}
use Rattle.apl_structure_laws.proofs.Selections.{listed}

-- ---- the elements of both

first-at : {A : Type 0} (k n : ℕ) (first second : List ℕ → ℕ) (d : A) (xs ys : List A) (i : List ℕ) → get_or i k 0 < n → joined_at k n first second d xs ys i ≡ get_or xs (first i) d
first-at k n first second d xs ys i h = ap (λ (b : Bool). cond b (get_or xs (first i) d) (get_or ys (second (on_axis k (λ j. j - n) i)) d)) (lt-ltb (get_or i k 0) n h)

second-at : {A : Type 0} (k n : ℕ) (first second : List ℕ → ℕ) (d : A) (xs ys : List A) (i : List ℕ) → n ≤ get_or i k 0 → joined_at k n first second d xs ys i ≡ get_or ys (second (on_axis k (λ j. j - n) i)) d
second-at k n first second d xs ys i h = ap (λ (b : Bool). cond b (get_or xs (first i) d) (get_or ys (second (on_axis k (λ j. j - n) i)) d)) (le-ltb (get_or i k 0) n h)

module _ (k : ℕ) (s t : List ℕ) (below : k < length s) (one_rank : length s ≡ length t) (alike : without k s ≡ without k t) where
  -- the second shape and the joined one
  longer : on_axis k (λ m. m + get_or s k 0) t ≡ joined_shape k s t
  longer =
      let n : ℕ = get_or s k 0 in
      let there : get_or (joined_shape k s t) k 0 ≡ get_or s k 0 + get_or t k 0 = get_or-on_axis k (λ m. m + get_or t k 0) s below in
      on_axis-to k (λ m. m + get_or s k 0) t (joined_shape k s t) (sym alike ∙ sym (without-on_axis k (λ m. m + get_or t k 0) s))
      (sym one_rank ∙ sym (length-on_axis k (λ m. m + get_or t k 0) s)) (omega arith) (omega (arith, there))

  shorter : on_axis k (λ m. m - get_or s k 0) (joined_shape k s t) ≡ t
  shorter =
      on_axis-on_axis k (λ m. m - get_or s k 0) (λ m. m + get_or t k 0) s
      ∙ on_axis-to k (λ m. (m + get_or t k 0) - get_or s k 0) s t alike one_rank below (less (get_or s k 0) (get_or t k 0))
    where
      less : (m n : ℕ) → (m + n) - m ≡ n
      less m n = omega arith

  pub first_within : (i : List ℕ) → is_within s i ≡ true → is_within (joined_shape k s t) i ≡ true
  first_within i w =
      ap (is_within (joined_shape k s t)) (sym (on_axis-stays k (λ j. j) i (λ h. refl)))
      ∙ within-on_axis k (λ m. m + get_or t k 0) (λ j. j) s i w (λ h. more (get_or i k 0) (get_or s k 0) (get_or t k 0) (within-at s i k w h))
    where
      more : (i m n : ℕ) → i < m → i < m + n
      more i m n h = omega arith

  pub second_within : (i : List ℕ) → is_within t i ≡ true → is_within (joined_shape k s t) (on_axis k (λ j. j + get_or s k 0) i) ≡ true
  second_within i w =
      ap (λ u. is_within u (on_axis k (λ j. j + get_or s k 0) i)) (sym longer)
      ∙ within-on_axis k (λ m. m + get_or s k 0) (λ j. j + get_or s k 0) t i w (λ h. more (get_or i k 0) (get_or t k 0) (get_or s k 0) (within-at t i k w h))
    where
      more : (i m n : ℕ) → i < m → i + n < m + n
      more i m n h = omega arith

  first_elements : {A : Type 0} (d : A) (xs ys : List A) → length xs ≡ size_of s →
      map (λ i. get_or (map (joined_at k (get_or s k 0) (position_in s) (position_in t) d xs ys) (indices (joined_shape k s t))) (position_in (joined_shape k s t) i) d) (indices s) ≡ xs
  first_elements d xs ys full =
      listed (λ i. get_or (map (joined_at k (get_or s k 0) (position_in s) (position_in t) d xs ys) (indices (joined_shape k s t))) (position_in (joined_shape k s t) i) d) xs d s full
      (λ i w. at_place (joined_at k (get_or s k 0) (position_in s) (position_in t) d xs ys) d (joined_shape k s t) i (first_within i w)
      ∙ first-at k (get_or s k 0) (position_in s) (position_in t) d xs ys i (within-at s i k w below))

  second_elements : {A : Type 0} (d : A) (xs ys : List A) → length ys ≡ size_of t →
      map (λ i. get_or (map (joined_at k (get_or s k 0) (position_in s) (position_in t) d xs ys) (indices (joined_shape k s t))) (position_in (joined_shape k s t) (on_axis k (λ j. j + get_or s k 0) i)) d) (indices t) ≡ ys
  second_elements {A = A} d xs ys full =
      listed (λ i. get_or (map (joined_at k (get_or s k 0) (position_in s) (position_in t) d xs ys) (indices (joined_shape k s t))) (position_in (joined_shape k s t) (on_axis k (λ j. j + get_or s k 0) i)) d) ys d t full there
    where
      back : (n : ℕ) (i : List ℕ) → on_axis k (λ j. j - n) (on_axis k (λ j. j + n) i) ≡ i
      back n i = on_axis-on_axis k (λ j. j - n) (λ j. j + n) i ∙ on_axis-stays k (λ j. (j + n) - n) i (λ h. less (get_or i k 0) n)
        where
          less : (j n : ℕ) → (j + n) - n ≡ j
          less j n = omega arith

      there : (i : List ℕ) → is_within t i ≡ true →
          get_or (map (joined_at k (get_or s k 0) (position_in s) (position_in t) d xs ys) (indices (joined_shape k s t))) (position_in (joined_shape k s t) (on_axis k (λ j. j + get_or s k 0) i)) d ≡ get_or ys (position_in t i) d
      there i w =
          let high : k < length i = omega (arith, length-within t i w) in
          let behind : get_or (on_axis k (λ j. j + get_or s k 0) i) k 0 ≡ get_or i k 0 + get_or s k 0 = get_or-on_axis k (λ j. j + get_or s k 0) i high in
          at_place (joined_at k (get_or s k 0) (position_in s) (position_in t) d xs ys) d (joined_shape k s t) (on_axis k (λ j. j + get_or s k 0) i) (second_within i w)
          ∙ second-at k (get_or s k 0) (position_in s) (position_in t) d xs ys (on_axis k (λ j. j + get_or s k 0) i) (omega (arith, behind))
          ∙ ap (λ j. get_or ys (position_in t j) d) (back (get_or s k 0) i)

  first_items : (xs ys : Items) → are_numbers xs ≡ are_numbers ys → length (cells_of xs) ≡ size_of s →
      picked (items_of_both k s t xs ys (indices (joined_shape k s t))) (λ i. position_in (joined_shape k s t) i) (indices s) ≡ xs
  first_items (Numbers xs) (Numbers ys) e full = ap (λ l. Numbers l) (first_elements (pos 0) xs ys (sym (length-map xs Num) ∙ full))
  first_items (Numbers xs) (Characters ys) e full = absurd (cc)
  first_items (Characters xs) (Numbers ys) e full = absurd (cc)
  first_items (Characters xs) (Characters ys) e full = ap (λ l. Characters l) (first_elements 0 xs ys (sym (length-map xs Char) ∙ full))

  second_items : (xs ys : Items) → are_numbers xs ≡ are_numbers ys → length (cells_of ys) ≡ size_of t →
      picked (items_of_both k s t xs ys (indices (joined_shape k s t))) (λ i. position_in (joined_shape k s t) (on_axis k (λ j. j + get_or s k 0) i)) (indices t) ≡ ys
  second_items (Numbers xs) (Numbers ys) e full = ap (λ l. Numbers l) (second_elements (pos 0) xs ys (sym (length-map ys Num) ∙ full))
  second_items (Numbers xs) (Characters ys) e full = absurd (cc)
  second_items (Characters xs) (Numbers ys) e full = absurd (cc)
  second_items (Characters xs) (Characters ys) e full = ap (λ l. Characters l) (second_elements 0 xs ys (sym (length-map ys Char) ∙ full))

full_both : (k : ℕ) (s t u : List ℕ) (xs ys : Items) → are_numbers xs ≡ are_numbers ys → length (cells_of (items_of_both k s t xs ys (indices u))) ≡ size_of u
full_both k s t u (Numbers xs) (Numbers ys) e =
    length-map (map (joined_at k (get_or s k 0) (position_in s) (position_in t) (pos 0) xs ys) (indices u)) Num ∙ length-map (indices u) (joined_at k (get_or s k 0) (position_in s) (position_in t) (pos 0) xs ys) ∙ length-indices u
full_both k s t u (Numbers xs) (Characters ys) e = absurd (cc)
full_both k s t u (Characters xs) (Numbers ys) e = absurd (cc)
full_both k s t u (Characters xs) (Characters ys) e =
    length-map (map (joined_at k (get_or s k 0) (position_in s) (position_in t) 0 xs ys) (indices u)) Char ∙ length-map (indices u) (joined_at k (get_or s k 0) (position_in s) (position_in t) 0 xs ys) ∙ length-indices u

-- ---- taking and dropping of what is joined

-- what is joined, where it is an array
pub record Parts (k : ℕ) (a b c : Arr) : Type 0 where
  pub alike : without k a.shape ≡ without k b.shape
  pub is_both : both k a b ≡ c

parts : (along : Along) (origin k : ℕ) (a b c : Arr) → AreJoined along origin k a b c → Parts k a b c
parts along origin k a b c j =
    let below : k < length a.shape = axis_within along (length a.shape) origin k j.axis_is in
    let some : 0 < length a.shape = omega arith in
    of (same (without k a.shape) (without k b.shape)) refl (sym (catenated-alike along origin k a b j.axis_is some j.one_rank j.one_type) ∙ j.joined)
  where
    within : (d : Bool) → ok_map (λ u. both k a b) (demand d Limit) ≡ Ok c → both k a b ≡ c
    within true e = cc
    within false e = absurd (cc)

    of : (d : Bool) → same (without k a.shape) (without k b.shape) ≡ d → and_then (demand d Length) (λ ok. if_limited k a b) ≡ Ok c → Parts k a b c
    of true e h = record { alike = same_is (without k a.shape) (without k b.shape) e; is_both = within (is_limited (joined_shape k a.shape b.shape)) h }
    of false e h = absurd (cc)

module _ (along : Along) (origin k : ℕ) (a b : Arr) (q : Arr) (j : AreJoined along origin k a b (both k a b)) (alike : without k a.shape ≡ without k b.shape) where
  below : k < length a.shape
  below = axis_within along (length a.shape) origin k j.axis_is

  whole_rank : length (joined_shape k a.shape b.shape) ≡ length a.shape
  whole_rank = length-on_axis k (λ m. m + get_or b.shape k 0) a.shape

  takes_of : Counts a.shape (joined_shape k a.shape b.shape) q → taken q (both k a b) ≡ Ok a
  takes_of c =
      let lower : k < length a.shape = below in
      let first = j.first in
      taken-front q (both k a b) a.shape (full_both k a.shape b.shape (joined_shape k a.shape b.shape) a.items b.items j.one_type) (omega (arith, whole_rank)) (sym whole_rank)
      (first_within k a.shape b.shape below j.one_rank alike) (limited-by a.shape first.few_axes first.small) c
      ∙ ap (λ (items : Items). Ok (record { shape = a.shape; items = items })) (first_items k a.shape b.shape below j.one_rank alike a.items b.items j.one_type first.full)

  drops_of : Counts (alone k (get_or a.shape k 0) (joined_shape k a.shape b.shape)) (joined_shape k a.shape b.shape) q → dropped q (both k a b) ≡ Ok b
  drops_of c =
      let lower : k < length a.shape = below in
      let first = j.first in
      let few : length a.shape ≤ 8 = first.few_axes in
      let there : get_or (joined_shape k a.shape b.shape) k 0 ≡ get_or a.shape k 0 + get_or b.shape k 0 = get_or-on_axis k (λ m. m + get_or b.shape k 0) a.shape below in
      dropped-rest q (both k a b) k (get_or a.shape k 0) (omega (arith, whole_rank)) (omega (arith, whole_rank)) (omega (arith, there)) c
      ∙ ap (λ (u : List ℕ). Ok (selected (both k a b) u (on_axis k (λ i. i + get_or a.shape k 0)))) (shorter k a.shape b.shape below j.one_rank alike)
      ∙ ap (λ (items : Items). Ok (record { shape = b.shape; items = items })) (second_items k a.shape b.shape below j.one_rank alike a.items b.items j.one_type j.second.full)

pub takes_first : TakesFirst
takes_first along origin k a b c q j = of (parts along origin k a b c j) j
  where
    of : Parts k a b c → AreJoined along origin k a b c → Counts a.shape c.shape q → taken q c ≡ Ok a
    of p = subst (λ (x : Arr). AreJoined along origin k a b x → Counts a.shape x.shape q → taken q x ≡ Ok a) p.is_both (λ j. takes_of along origin k a b q j p.alike)

pub drops_first : DropsFirst
drops_first along origin k a b c q j = of (parts along origin k a b c j) j
  where
    of : Parts k a b c → AreJoined along origin k a b c → Counts (alone k (get_or a.shape k 0) c.shape) c.shape q → dropped q c ≡ Ok b
    of p = subst (λ (x : Arr). AreJoined along origin k a b x → Counts (alone k (get_or a.shape k 0) x.shape) x.shape q → dropped q x ≡ Ok b) p.is_both (λ j. drops_of along origin k a b q j p.alike)

-- ---- joining what was taken and what is left

module _ (k n : ℕ) (s : List ℕ) (below : k < length s) (few : n ≤ get_or s k 0) where
  prefix : List ℕ
  prefix = on_axis k (λ m. n) s

  rest : List ℕ
  rest = on_axis k (λ m. m - n) s

  front-length : get_or prefix k 0 ≡ n
  unfolding prefix
  front-length = get_or-on_axis k (λ m. n) s below

  rest-length : get_or rest k 0 ≡ get_or s k 0 - n
  unfolding rest
  rest-length = get_or-on_axis k (λ m. m - n) s below

  again : joined_shape k prefix rest ≡ s
  unfolding prefix rest
  again =
      let a : get_or prefix k 0 ≡ n = front-length in
      let b : get_or rest k 0 ≡ get_or s k 0 - n = rest-length in
      on_axis-to k (λ m. m + get_or rest k 0) prefix s (without-on_axis k (λ m. n) s) (length-on_axis k (λ m. n) s) (omega (arith, length-on_axis k (λ m. n) s)) (omega arith)

  front_within : (i : List ℕ) → is_within s i ≡ true → get_or i k 0 < n → is_within prefix i ≡ true
  unfolding prefix
  front_within i w h = ap (is_within (on_axis k (λ m. n) s)) (sym (on_axis-stays k (λ j. j) i (λ h. refl))) ∙ within-on_axis k (λ m. n) (λ j. j) s i w (λ g. h)

  rest_within : (i : List ℕ) → is_within s i ≡ true → n ≤ get_or i k 0 → is_within rest (on_axis k (λ j. j - n) i) ≡ true
  unfolding rest
  rest_within i w h = within-on_axis k (λ m. m - n) (λ j. j - n) s i w (λ g. less (get_or i k 0) (get_or s k 0) n h (within-at s i k w g))
    where
      less : (i m n : ℕ) → n ≤ i → i < m → i - n < m - n
      less i m n h g = omega arith

  front_inside : (i : List ℕ) → is_within prefix i ≡ true → is_within s i ≡ true
  unfolding prefix
  front_inside i w =
      ap (is_within s) (sym (on_axis-stays k (λ j. j) i (λ h. refl)))
      ∙ ap (λ t. is_within t (on_axis k (λ j. j) i)) (sym (on_axis-to k (λ m. get_or s k 0) prefix s (without-on_axis k (λ m. n) s) (length-on_axis k (λ m. n) s) (omega (arith, length-on_axis k (λ m. n) s)) refl))
      ∙ within-on_axis k (λ m. get_or s k 0) (λ j. j) prefix i w (λ h. let g : get_or i k 0 < get_or prefix k 0 = within-at prefix i k w h in omega (arith, front-length))

  -- the elements of either part
  abbrev starts : {A : Type 0} → A → List A → List A
  starts d zs = map (λ i. get_or zs (position_in s i) d) (indices prefix)

  abbrev rests : {A : Type 0} → A → List A → List A
  rests d zs = map (λ i. get_or zs (position_in s (on_axis k (λ j. j + n) i)) d) (indices rest)

  abbrev either : {A : Type 0} → A → List A → List ℕ → A
  either d zs i = joined_at k (get_or prefix k 0) (position_in prefix) (position_in rest) d (starts d zs) (rests d zs) i

  low : {A : Type 0} (d : A) (zs : List A) (i : List ℕ) → is_within s i ≡ true → get_or i k 0 < n → either d zs i ≡ get_or zs (position_in s i) d
  low d zs i w h =
      first-at k (get_or prefix k 0) (position_in prefix) (position_in rest) d (starts d zs) (rests d zs) i (omega (arith, front-length))
      ∙ at_place (λ i. get_or zs (position_in s i) d) d prefix i (front_within i w h)

  back : (i : List ℕ) → n ≤ get_or i k 0 → on_axis k (λ j. j + n) (on_axis k (λ j. j - n) i) ≡ i
  back i h = on_axis-on_axis k (λ j. j + n) (λ j. j - n) i ∙ on_axis-stays k (λ j. (j - n) + n) i (λ g. more (get_or i k 0) n h)
    where
      more : (j n : ℕ) → n ≤ j → (j - n) + n ≡ j
      more j n h = omega arith

  high : {A : Type 0} (d : A) (zs : List A) (i : List ℕ) → is_within s i ≡ true → n ≤ get_or i k 0 → either d zs i ≡ get_or zs (position_in s i) d
  high d zs i w h =
      ap (λ m. joined_at k m (position_in prefix) (position_in rest) d (starts d zs) (rests d zs) i) front-length
      ∙ second-at k n (position_in prefix) (position_in rest) d (starts d zs) (rests d zs) i h
      ∙ at_place (λ i. get_or zs (position_in s (on_axis k (λ j. j + n) i)) d) d rest (on_axis k (λ j. j - n) i) (rest_within i w h)
      ∙ ap (λ i. get_or zs (position_in s i) d) (back i h)

  elements : {A : Type 0} (d : A) (zs : List A) → length zs ≡ size_of s → map (either d zs) (indices s) ≡ zs
  elements d zs full = listed (either d zs) zs d s full (λ i w. ⊎_elim (low d zs i w) (high d zs i w) (cases_lt (get_or i k 0) n))

  items : (zs : Items) → length (cells_of zs) ≡ size_of s →
      items_of_both k prefix rest (picked zs (λ i. position_in s i) (indices prefix)) (picked zs (λ i. position_in s (on_axis k (λ j. j + n) i)) (indices rest)) (indices s) ≡ zs
  items (Numbers zs) full = ap (λ l. Numbers l) (elements (pos 0) zs (sym (length-map zs Num) ∙ full))
  items (Characters cs) full = ap (λ l. Characters l) (elements 0 cs (sym (length-map cs Char) ∙ full))

type_picked : (items : Items) (f g : List ℕ → ℕ) (is js : List (List ℕ)) → are_numbers (picked items f is) ≡ are_numbers (picked items g js)
type_picked (Numbers zs) f g is js = refl
type_picked (Characters cs) f g is js = refl

pub rejoins : Rejoins
unfolding prefix rest
rejoins along origin k n a q r h g few c d =
    let first : Arr = selected a (on_axis k (λ m. n) a.shape) (λ i. i) in
    let others : Arr = selected a (on_axis k (λ m. m - n) a.shape) (on_axis k (λ j. j + n)) in
    ap (λ (x : Result Arr Fault). and_then x (λ first. and_then (dropped r a) (λ rest. catenated along origin first rest)))
    (taken-front q a (on_axis k (λ m. n) a.shape) h.full some (length-on_axis k (λ m. n) a.shape) (front_inside k n a.shape below few)
    (limited-by (on_axis k (λ m. n) a.shape) (omega (arith, axes, length-on_axis k (λ m. n) a.shape)) (omega (arith, small, bound-on_axis k n a.shape few))) c)
    ∙ ap (λ (x : Result Arr Fault). and_then x (λ rest. catenated along origin first rest)) (dropped-rest r a k n some h.few_axes few d)
    ∙ catenated-alike along origin k first others (ap (λ m. axis_along along m origin) (length-on_axis k (λ m. n) a.shape) ∙ g) (omega (arith, some, length-on_axis k (λ m. n) a.shape))
    (length-on_axis k (λ m. n) a.shape ∙ sym (length-on_axis k (λ m. m - n) a.shape)) (type_picked a.items (λ i. position_in a.shape i) (λ i. position_in a.shape (on_axis k (λ j. j + n) i)) (indices (on_axis k (λ m. n) a.shape)) (indices (on_axis k (λ m. m - n) a.shape)))
    ∙ ap (λ (x : List ℕ). and_then (demand (same x (without k (on_axis k (λ m. m - n) a.shape))) Length) (λ ok. if_limited k first others)) (without-on_axis k (λ m. n) a.shape)
    ∙ ap (λ (x : List ℕ). and_then (demand (same (without k a.shape) x) Length) (λ ok. if_limited k first others)) (without-on_axis k (λ m. m - n) a.shape)
    ∙ ap (λ (x : Bool). and_then (demand x Length) (λ ok. if_limited k first others)) (same-refl (without k a.shape))
    ∙ ap (λ (u : List ℕ). ok_map (λ v. record { shape = u; items = items_of_both k (on_axis k (λ m. n) a.shape) (on_axis k (λ m. m - n) a.shape) first.items others.items (indices u) }) (demand (is_limited u) Limit)) (again k n a.shape below few)
    ∙ ap (λ (x : Bool). ok_map (λ v. record { shape = a.shape; items = items_of_both k (on_axis k (λ m. n) a.shape) (on_axis k (λ m. m - n) a.shape) first.items others.items (indices a.shape) }) (demand x Limit)) (limited-by a.shape h.few_axes h.small)
    ∙ ap (λ (x : Items). Ok (record { shape = a.shape; items = x })) (items k n a.shape below few a.items h.full)
  where
    below : k < length a.shape
    below = axis_within along (length a.shape) origin k g

    some : 0 < length a.shape
    some = let b : k < length a.shape = below in omega arith

    axes : length a.shape ≤ 8
    axes = h.few_axes

    small : bound_of a.shape ≤ 1000000
    small = h.small
