-- The steps of a whole array.
use Rattle.std.proofs.Common.{max, ◌^◌, suc, zero, ◌≡◌, ℕ, pos, ◌+◌, ◌-◌, ◌*◌, ◌<◌, ◌≤◌, true, nat_lt, List, [], ◌∷◌, ◌++◌, map, length, get_or, refl, ap, sym, ◌∙◌, arith, subst, drop, append_assoc}
use Rattle.std.proofs.lemmas.List.{length-map}
use Rattle.std.proofs.lemmas.List.FromFn.{fill_by_all}
use Rattle.std.proofs.Math.Nat.{mul-le-mul_left, mul-le-mul_right}
use Rattle.apl_arrays.specs.declared.axis.Axis.{Axis}
use Rattle.apl_arrays.specs.declared.cell.Cell.TheVariants.{Num, Char}
use Rattle.apl_arrays.specs.Index.{size_of, bound_of, indices, is_within, position_in}
use Rattle.apl_arrays.specs.Cells.{Arr, Items, Numbers, Characters, IsArray, cells_of}
use Rattle.apl_arrays.specs.Strides.{lengths, place_at, reach_of, seen, whole_axes, IsView}
use Rattle.apl_arrays.proofs.Places.{both, position_in-lt, size_le_bound, rest_of}
use Rattle.apl_arrays.proofs.Order.{map_by_places, all_within}
use Rattle.apl_arrays.proofs.InOrder.{map_same}

pub lengths-whole : (s : List ℕ) → lengths (whole_axes s) ≡ s
lengths-whole [] = refl
lengths-whole (n ∷ ns) = ap (λ l. n ∷ l) (lengths-whole ns)

pub place_at-whole : (s i : List ℕ) (p : ℕ) → is_within s i ≡ true → place_at p (whole_axes s) i ≡ p + position_in s i
place_at-whole [] [] p w = omega arith
place_at-whole [] (i ∷ is) p w = absurd (cc)
place_at-whole (n ∷ ns) [] p w = absurd (cc)
place_at-whole (n ∷ ns) (i ∷ is) p w =
    place_at-whole ns is (p + (size_of ns * i + 0 * (n - 1 - i))) (both (nat_lt i n) (is_within ns is) w).1 ∙ turn p (size_of ns) i (n - 1 - i) (position_in ns is)
  where
    turn : (p s i m q : ℕ) → (p + (s * i + 0 * m)) + q ≡ p + (i * s + q)
    turn p s i m q = omega arith

numbers-whole : {A : Type 0} (zs : List A) (d : A) (s t : List ℕ) → s ≡ t → length zs ≡ size_of t → map (λ i. get_or zs (place_at 0 (whole_axes t) i) d) (indices s) ≡ zs
numbers-whole zs d s t e h =
    ap (λ u. map (λ i. get_or zs (place_at 0 (whole_axes t) i) d) (indices u)) e
    ∙ map_same (λ i. is_within t i ≡ true) (λ i. get_or zs (place_at 0 (whole_axes t) i) d) (λ i. get_or zs (position_in t i) d)
    (λ i w. ap (λ p. get_or zs p d) (place_at-whole t i 0 w ∙ none (position_in t i))) (indices t) (all_within t)
    ∙ map_by_places t (λ p. get_or zs p d) ∙ sym (fill_by_all (λ p. get_or zs p d) zs (size_of t) d h (λ k l. refl))
  where
    none : (i : ℕ) → 0 + i ≡ i
    none i = omega arith

pub seen-whole : (items : Items) (s : List ℕ) → length (cells_of items) ≡ size_of s → seen items 0 (whole_axes s) ≡ items
seen-whole (Numbers zs) s h = ap (λ l. Numbers l) (numbers-whole zs (pos 0) (lengths (whole_axes s)) s (lengths-whole s) (sym (length-map zs Num) ∙ h))
seen-whole (Characters cs) s h = ap (λ l. Characters l) (numbers-whole cs 0 (lengths (whole_axes s)) s (lengths-whole s) (sym (length-map cs Char) ∙ h))

-- one axis more of the whole
pub whole_step : (s : List ℕ) (k : ℕ) (xs ys : List Axis) → k < length s → ys ≡ xs ++ record { length = get_or s k 0; up = size_of (drop (k + 1) s); down = 0 } ∷ [] →
    ys ++ whole_axes (drop (k + 1) s) ≡ xs ++ whole_axes (drop k s)
whole_step s k xs ys h e = ap (λ l. l ++ whole_axes (drop (k + 1) s)) e ∙ append_assoc xs _ (whole_axes (drop (k + 1) s)) ∙ ap (λ l. xs ++ whole_axes l) (sym (rest_of s k h))

pub bound-drop : (s : List ℕ) (k m : ℕ) → bound_of s ≤ m → bound_of (drop k s) ≤ m
bound-drop s zero m h = h
bound-drop [] (suc k) m h = h
bound-drop (n ∷ ns) (suc k) m h = bound-drop ns k m (less (max n 1) (bound_of ns) m (omega arith) h)
  where
    less : (a b m : ℕ) → 1 ≤ a → a * b ≤ m → b ≤ m
    less a b m h k = let g : 1 * b ≤ a * b = mul-le-mul_right b h in omega arith

reach-whole : (s : List ℕ) (p : ℕ) → reach_of p (whole_axes s) ≤ p + 2 * (length s * bound_of s)
reach-whole [] p = omega arith
reach-whole (n ∷ ns) p =
    near p (size_of ns) n (max n 1) (bound_of ns) (length ns) (suc (length ns)) (omega arith) (reach_of (p + (size_of ns + 0) * (n + 1)) (whole_axes ns)) (omega arith) (omega arith) (size_le_bound ns) (reach-whole ns (p + (size_of ns + 0) * (n + 1)))
  where
    near : (p s n m b l l1 : ℕ) → l1 ≡ l + 1 → (r : ℕ) → n ≤ m → 1 ≤ m → s ≤ b → r ≤ (p + (s + 0) * (n + 1)) + 2 * (l * b) → r ≤ p + 2 * (l1 * (m * b))
    near p s n m b l l1 d r h o k g = rw d (
        let e1 : s * (n + 1) ≤ b * (2 * m) = two s b (n + 1) (2 * m) k (omega arith) in
        let e2 : l * b ≤ l * (m * b) = mul-le-mul_left l (one m b o) in
        let e3 : b * (2 * m) ≡ 2 * (m * b) = omega arith in
        let e4 : (l + 1) * (m * b) ≡ l * (m * b) + m * b = omega arith in
        let e5 : (s + 0) * (n + 1) ≡ s * (n + 1) = omega arith in
        omega arith)
      where
        two : (a b c d : ℕ) → a ≤ b → c ≤ d → a * c ≤ b * d
        two a b c d h k = omega (arith, mul-le-mul_left a k, mul-le-mul_right d h)

        one : (m b : ℕ) → 1 ≤ m → b ≤ m * b
        one m b h = let g : 1 * b ≤ m * b = mul-le-mul_right b h in omega arith

reach_small : (s : List ℕ) → length s ≤ 8 → bound_of s ≤ 1000000 → reach_of 0 (whole_axes s) < 2 ^ 62
reach_small s h k = omega (arith, reach-whole s 0, mul-le-mul_right (bound_of s) h)

-- the steps of a whole array stay within it
pub view_whole : (s : List ℕ) (items : Items) (xs : List Axis) (kept : Items) → xs ≡ whole_axes s → kept ≡ items → IsArray s items → IsView kept 0 xs
view_whole s items xs kept e f a =
    let P : List Axis → Type 0 = λ ys. IsView kept 0 ys in
    let Q : Items → Type 0 = λ items. IsView items 0 (whole_axes s) in
    subst P (sym e) (subst Q (sym f) (record {
      placed = λ i w. there i (rw (lengths-whole s) at w);
      near = reach_small s a.few_axes a.small;
      small = rw (lengths-whole s) a.small;
      storable = a.storable;
    }))
  where
    there : (i : List ℕ) → is_within s i ≡ true → place_at 0 (whole_axes s) i < length (cells_of items)
    there i w = omega (arith, place_at-whole s i 0 w, position_in-lt s i w, a.full)

-- and show it
pub shown_whole : (a : Arr) (xs : List Axis) (kept : Items) → xs ≡ whole_axes a.shape → kept ≡ a.items → length (cells_of a.items) ≡ size_of a.shape →
    record { shape = lengths xs; items = seen kept 0 xs } ≡ a
shown_whole a xs kept e f h =
    ap (λ (ys : List Axis). record { shape = lengths ys; items = seen kept 0 ys }) e
    ∙ ap (λ (i : Items). record { shape = lengths (whole_axes a.shape); items = seen i 0 (whole_axes a.shape) }) f
    ∙ ap (λ (l : List ℕ). record { shape = l; items = seen a.items 0 (whole_axes a.shape) }) (lengths-whole a.shape)
    ∙ ap (λ (i : Items). record { shape = a.shape; items = i }) (seen-whole a.items a.shape h)
