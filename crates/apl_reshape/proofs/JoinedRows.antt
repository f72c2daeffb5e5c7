-- The elements of a joined array, row by row: of each row a block of the first operand's and then one of the second's.
use Rattle.std.proofs.Common.{suc, zero, ◌≡◌, ℕ, ◌+◌, ◌-◌, ◌*◌, ◌<◌, ◌≤◌, Bool, true, nat_lt, eqb, cond, List, [], ◌∷◌, ◌++◌, map, length, get_or, take, drop, refl, ap, sym, ◌∙◌, arith, subst, append-nil}
use Rattle.std.specs.List.{range_with_len, flat_map}
use Rattle.std.proofs.lemmas.Grind.{flat_map-append}
use Rattle.std.proofs.lemmas.List.{map-append}
use Rattle.std.proofs.lemmas.Bool.{lt-ltb, le-ltb, eqb-true}
use Rattle.apl_arrays.specs.Index.{size_of, indices, is_within, position_in}
use Rattle.apl_arrays.specs.Axes.{without}
use Rattle.apl_arrays.specs.Views.{on_axis}
use Rattle.apl_arrays.specs.Checks.{same}
use Rattle.apl_arrays.proofs.Places.{both, within_head}
use Rattle.apl_arrays.proofs.Order.{map_map, map_by_places, all_within}
use Rattle.apl_arrays.proofs.InOrder.{map_same}
use Rattle.apl_reshape.specs.Catenate.{joined_shape}
use Rattle.apl_reshape.specs.inside.Rows.{blocks}
use Rattle.apl_reshape.proofs.Ranges.{map_always, range-append}

pub same_is_equal : (s t : List ℕ) → same s t ≡ true → s ≡ t
same_is_equal [] [] e = refl
same_is_equal [] (n ∷ t) e = absurd (cc)
same_is_equal (m ∷ s) [] e = absurd (cc)
same_is_equal (m ∷ s) (n ∷ t) e =
    let p = both (eqb m n) (same s t) e in
    ap (λ (k : ℕ). k ∷ s) (eqb-true m n p.0) ∙ ap (λ (l : List ℕ). n ∷ l) (same_is_equal s t p.1)

flat_always : {A B : Type 0} (f g : A → List B) → ((x : A) → f x ≡ g x) → (xs : List A) → flat_map f xs ≡ flat_map g xs
flat_always f g h [] = refl
flat_always {B = B} f g h (x ∷ xs) = ap (λ (y : List B). y ++ flat_map f xs) (h x) ∙ ap (λ (l : List B). g x ++ l) (flat_always f g h xs)

map_flat : {A B C : Type 0} (h : B → C) (f : A → List B) (xs : List A) → map h (flat_map f xs) ≡ flat_map (λ x. map h (f x)) xs
map_flat h f [] = refl
map_flat {C = C} h f (x ∷ xs) = map-append h (f x) (flat_map f xs) ∙ ap (λ (l : List C). map h (f x) ++ l) (map_flat h f xs)

-- f of the numbers from c + a on
flat_from : {A : Type 0} (f : ℕ → List A) (c a n : ℕ) → flat_map f (range_with_len (c + a) n) ≡ flat_map (λ r. f (c + r)) (range_with_len a n)
flat_from f c a zero = refl
flat_from {A = A} f c a (suc n) = ap (λ (l : List A). f (c + a) ++ l) (ap (λ (k : ℕ). flat_map f (range_with_len k n)) (there c a) ∙ flat_from f c (a + 1) n)
  where
    there : (c a : ℕ) → (c + a) + 1 ≡ c + (a + 1)
    there c a = omega arith

-- f of w numbers for each of n, one after another
flat_rows : {A : Type 0} (f : ℕ → List A) (w a n : ℕ) → flat_map (λ i. flat_map (λ o. f (i * w + o)) (range_with_len 0 w)) (range_with_len a n) ≡ flat_map f (range_with_len (a * w) (n * w))
flat_rows f w a zero = ap (λ (k : ℕ). flat_map f (range_with_len (a * w) k)) (none w)
  where
    none : (w : ℕ) → 0 ≡ 0 * w
    none w = omega arith
flat_rows {A = A} f w a (suc n) =
    ap (λ (l : List A). flat_map (λ o. f (a * w + o)) (range_with_len 0 w) ++ l) (flat_rows f w (a + 1) n)
    ∙ ap (λ (l : List A). l ++ flat_map f (range_with_len ((a + 1) * w) (n * w))) (sym (flat_from f (a * w) 0 w) ∙ ap (λ (k : ℕ). flat_map f (range_with_len k w)) (start a w))
    ∙ ap (λ (k : ℕ). flat_map f (range_with_len (a * w) w) ++ flat_map f (range_with_len k (n * w))) (next a w)
    ∙ sym (flat_map-append f (range_with_len (a * w) w) (range_with_len (a * w + w) (n * w)))
    ∙ ap (flat_map f) (range-append (a * w) w (n * w))
    ∙ ap (λ (k : ℕ). flat_map f (range_with_len (a * w) k)) (all w n)
  where
    start : (a w : ℕ) → a * w + 0 ≡ a * w
    start a w = omega arith

    next : (a w : ℕ) → (a + 1) * w ≡ a * w + w
    next a w = omega arith

    all : (w n : ℕ) → w + n * w ≡ suc n * w
    all w n = omega arith

pub size_parts : (k : ℕ) (s : List ℕ) → size_of (take k s) * size_of (drop k s) ≡ size_of s
size_parts zero s = one (size_of s)
  where
    one : (n : ℕ) → 1 * n ≡ n
    one n = omega arith
size_parts (suc k) [] = refl
size_parts (suc k) (n ∷ s) = turn n (size_of (take k s)) (size_of (drop k s)) ∙ ap (λ m. n * m) (size_parts k s)
  where
    turn : (n a b : ℕ) → (n * a) * b ≡ n * (a * b)
    turn n a b = omega arith

pub same_before : (k : ℕ) (s t : List ℕ) → k < length s → k < length t → same (without k s) (without k t) ≡ true → take k s ≡ take k t
same_before zero s t h g e = refl
same_before (suc k) [] t h g e = absurd (omega arith)
same_before (suc k) (n ∷ s) [] h g e = absurd (omega arith)
same_before (suc k) (n ∷ s) (m ∷ t) h g e =
    let p = both (eqb n m) (same (without k s) (without k t)) e in
    ap (λ (j : ℕ). j ∷ take k s) (eqb-true n m p.0) ∙ ap (λ (l : List ℕ). m ∷ l) (same_before k s t (omega arith) (omega arith) p.1)

-- the element at an index list of the joined array
abbrev pub joined_from : {A : Type 0} → ℕ → List ℕ → List ℕ → (ℕ → A) → (ℕ → A) → List ℕ → A
joined_from axis s t F G i = cond (nat_lt (get_or i axis 0) (get_or s axis 0)) (F (position_in s i)) (G (position_in t (on_axis axis (λ k. k - get_or s axis 0) i)))

first_rows : {A : Type 0} (F G : ℕ → A) (n m : ℕ) (s : List ℕ) →
    map (joined_from 0 (n ∷ s) (m ∷ s) F G) (indices (n ∷ s)) ≡ map F (range_with_len 0 (n * size_of s))
first_rows {A = A} F G n m s =
    map_same (λ i. is_within (n ∷ s) i ≡ true) (joined_from 0 (n ∷ s) (m ∷ s) F G) (λ i. F (position_in (n ∷ s) i)) here (indices (n ∷ s)) (all_within (n ∷ s))
    ∙ map_by_places (n ∷ s) F
  where
    here : (i : List ℕ) → is_within (n ∷ s) i ≡ true → joined_from 0 (n ∷ s) (m ∷ s) F G i ≡ F (position_in (n ∷ s) i)
    here [] w = absurd (cc)
    here (i ∷ is) w = ap (λ (b : Bool). cond b (F (position_in (n ∷ s) (i ∷ is))) (G (position_in (m ∷ s) ((i - n) ∷ is)))) (lt-ltb i n (within_head n i s is w))

rows_from : (s : List ℕ) (c a n : ℕ) → flat_map (λ i. map (λ is. i ∷ is) (indices s)) (range_with_len (c + a) n) ≡ map (on_axis 0 (λ k. c + k)) (flat_map (λ i. map (λ is. i ∷ is) (indices s)) (range_with_len a n))
rows_from s c a n =
    flat_from (λ i. map (λ is. i ∷ is) (indices s)) c a n
    ∙ flat_always (λ r. map (λ is. (c + r) ∷ is) (indices s)) (λ r. map (on_axis 0 (λ k. c + k)) (map (λ is. r ∷ is) (indices s))) (λ r. sym (map_map (on_axis 0 (λ k. c + k)) (λ is. r ∷ is) (indices s))) (range_with_len a n)
    ∙ sym (map_flat (on_axis 0 (λ k. c + k)) (λ i. map (λ is. i ∷ is) (indices s)) (range_with_len a n))

second_rows : {A : Type 0} (F G : ℕ → A) (n m : ℕ) (s : List ℕ) →
    map (joined_from 0 (n ∷ s) (m ∷ s) F G) (flat_map (λ i. map (λ is. i ∷ is) (indices s)) (range_with_len (n + 0) m)) ≡ map G (range_with_len 0 (m * size_of s))
second_rows {A = A} F G n m s =
    ap (map (joined_from 0 (n ∷ s) (m ∷ s) F G)) (rows_from s n 0 m)
    ∙ map_map (joined_from 0 (n ∷ s) (m ∷ s) F G) (on_axis 0 (λ k. n + k)) (indices (m ∷ s))
    ∙ map_same (λ i. is_within (m ∷ s) i ≡ true) (λ i. joined_from 0 (n ∷ s) (m ∷ s) F G (on_axis 0 (λ k. n + k) i)) (λ i. G (position_in (m ∷ s) i)) here (indices (m ∷ s)) (all_within (m ∷ s))
    ∙ map_by_places (m ∷ s) G
  where
    here : (i : List ℕ) → is_within (m ∷ s) i ≡ true → joined_from 0 (n ∷ s) (m ∷ s) F G (on_axis 0 (λ k. n + k) i) ≡ G (position_in (m ∷ s) i)
    here [] w = absurd (cc)
    here (i ∷ is) w =
        ap (λ (b : Bool). cond b (F (position_in (n ∷ s) ((n + i) ∷ is))) (G (position_in (m ∷ s) (((n + i) - n) ∷ is)))) (le-ltb (n + i) n (more n i))
        ∙ ap (λ (k : ℕ). G (position_in (m ∷ s) (k ∷ is))) (back n i)
      where
        more : (n i : ℕ) → n ≤ n + i
        more n i = omega arith

        back : (n i : ℕ) → (n + i) - n ≡ i
        back n i = omega arith

one_row : {A : Type 0} (F G : ℕ → A) (n m : ℕ) (s : List ℕ) → map (joined_from 0 (n ∷ s) (m ∷ s) F G) (indices ((n + m) ∷ s)) ≡ blocks F G (n * size_of s) (m * size_of s) 0 ++ []
one_row {A = A} F G n m s =
    ap (λ (l : List ℕ). map (joined_from 0 (n ∷ s) (m ∷ s) F G) (flat_map (λ i. map (λ is. i ∷ is) (indices s)) l)) (sym (range-append 0 n m))
    ∙ ap (map (joined_from 0 (n ∷ s) (m ∷ s) F G)) (flat_map-append (λ i. map (λ is. i ∷ is) (indices s)) (range_with_len 0 n) (range_with_len (0 + n) m))
    ∙ map-append (joined_from 0 (n ∷ s) (m ∷ s) F G) (indices (n ∷ s)) (flat_map (λ i. map (λ is. i ∷ is) (indices s)) (range_with_len (0 + n) m))
    ∙ ap (λ (k : ℕ). map (joined_from 0 (n ∷ s) (m ∷ s) F G) (indices (n ∷ s)) ++ map (joined_from 0 (n ∷ s) (m ∷ s) F G) (flat_map (λ i. map (λ is. i ∷ is) (indices s)) (range_with_len k m))) (there n)
    ∙ ap (λ (l : List A). l ++ map (joined_from 0 (n ∷ s) (m ∷ s) F G) (flat_map (λ i. map (λ is. i ∷ is) (indices s)) (range_with_len (n + 0) m))) (first_rows F G n m s)
    ∙ ap (λ (l : List A). map F (range_with_len 0 (n * size_of s)) ++ l) (second_rows F G n m s)
    ∙ ap (λ (l : List A). l ++ map G (range_with_len 0 (m * size_of s))) (map_always F (λ r. F (0 * (n * size_of s) + r)) (λ r. ap F (none (n * size_of s) r)) (range_with_len 0 (n * size_of s)))
    ∙ ap (λ (l : List A). map (λ r. F (0 * (n * size_of s) + r)) (range_with_len 0 (n * size_of s)) ++ l) (map_always G (λ r. G (0 * (m * size_of s) + r)) (λ r. ap G (none (m * size_of s) r)) (range_with_len 0 (m * size_of s)))
    ∙ sym (append-nil (blocks F G (n * size_of s) (m * size_of s) 0))
  where
    there : (n : ℕ) → 0 + n ≡ n + 0
    there n = omega arith

    none : (a r : ℕ) → r ≡ 0 * a + r
    none a r = omega arith

-- the blocks of a part of the rows
blocks_from : {A : Type 0} (F G : ℕ → A) (a b w i u v : ℕ) → u ≡ w * a → v ≡ w * b → (o : ℕ) → blocks (λ p. F (i * u + p)) (λ p. G (i * v + p)) a b o ≡ blocks F G a b (i * w + o)
blocks_from {A = A} F G a b w i u v e f o =
    ap (λ (l : List A). l ++ map (λ r. G (i * v + (o * b + r))) (range_with_len 0 b)) (map_always (λ r. F (i * u + (o * a + r))) (λ r. F ((i * w + o) * a + r)) (λ r. ap F (turn a w i u o r e)) (range_with_len 0 a))
    ∙ ap (λ (l : List A). map (λ r. F ((i * w + o) * a + r)) (range_with_len 0 a) ++ l) (map_always (λ r. G (i * v + (o * b + r))) (λ r. G ((i * w + o) * b + r)) (λ r. ap G (turn b w i v o r f)) (range_with_len 0 b))
  where
    turn : (a w i u o r : ℕ) → u ≡ w * a → i * u + (o * a + r) ≡ (i * w + o) * a + r
    turn a w i u o r e = rw e (omega arith)

pub by_blocks : {A : Type 0} (axis : ℕ) (s t : List ℕ) (F G : ℕ → A) → axis < length s → length s ≡ length t → same (without axis s) (without axis t) ≡ true →
    map (joined_from axis s t F G) (indices (joined_shape axis s t)) ≡ flat_map (blocks F G (size_of (drop axis s)) (size_of (drop axis t))) (range_with_len 0 (size_of (take axis s)))
by_blocks axis [] t F G h l e = absurd (omega arith)
by_blocks axis (n ∷ s) [] F G h l e = absurd (omega arith)
by_blocks {A = A} zero (n ∷ s) (m ∷ t) F G h l e =
    let P : List ℕ → Type 0 = λ u. map (joined_from 0 (n ∷ s) (m ∷ u) F G) (indices ((n + m) ∷ s)) ≡ flat_map (blocks F G (n * size_of s) (m * size_of u)) (range_with_len 0 1) in
    subst P (same_is_equal s t e) (one_row F G n m s)
by_blocks {A = A} (suc axis) (n ∷ s) (m ∷ t) F G h l e =
    let p = both (eqb n m) (same (without axis s) (without axis t)) e in
    let at : axis < length s = omega arith in
    let there : axis < length t = omega arith in
    let u : size_of s ≡ size_of (take axis s) * size_of (drop axis s) = sym (size_parts axis s) in
    let v : size_of t ≡ size_of (take axis s) * size_of (drop axis t) = sym (size_parts axis t) ∙ ap (λ (l : List ℕ). size_of l * size_of (drop axis t)) (sym (same_before axis s t at there p.1)) in
    map_flat (joined_from (suc axis) (n ∷ s) (m ∷ t) F G) (λ i. map (λ is. i ∷ is) (indices (joined_shape axis s t))) (range_with_len 0 n)
    ∙ flat_always (λ i. map (joined_from (suc axis) (n ∷ s) (m ∷ t) F G) (map (λ is. i ∷ is) (indices (joined_shape axis s t))))
    (λ i. flat_map (λ o. blocks F G (size_of (drop axis s)) (size_of (drop axis t)) (i * size_of (take axis s) + o)) (range_with_len 0 (size_of (take axis s))))
    (λ i. map_map (joined_from (suc axis) (n ∷ s) (m ∷ t) F G) (λ is. i ∷ is) (indices (joined_shape axis s t))
    ∙ by_blocks axis s t (λ p. F (i * size_of s + p)) (λ p. G (i * size_of t + p)) at (omega arith) p.1
    ∙ flat_always (blocks (λ p. F (i * size_of s + p)) (λ p. G (i * size_of t + p)) (size_of (drop axis s)) (size_of (drop axis t)))
    (λ o. blocks F G (size_of (drop axis s)) (size_of (drop axis t)) (i * size_of (take axis s) + o))
    (blocks_from F G (size_of (drop axis s)) (size_of (drop axis t)) (size_of (take axis s)) i (size_of s) (size_of t) u v) (range_with_len 0 (size_of (take axis s))))
    (range_with_len 0 n)
    ∙ flat_rows (blocks F G (size_of (drop axis s)) (size_of (drop axis t))) (size_of (take axis s)) 0 n
    ∙ ap (λ (k : ℕ). flat_map (blocks F G (size_of (drop axis s)) (size_of (drop axis t))) (range_with_len k (n * size_of (take axis s)))) (none (size_of (take axis s)))
  where
    none : (w : ℕ) → 0 * w ≡ 0
    none w = omega arith
