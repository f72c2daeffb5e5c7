-- What is taken of items, along the last axis and row by row.
use Rattle.std.proofs.Common.{pos, ◌≡◌, ℕ, ℤ, ◌+◌, ◌-◌, ◌*◌, ◌<◌, ◌≤◌, ◌&&◌, Bool, true, false, nat_lt, cond, min, List, [], ◌∷◌, ◌++◌, map, length, replicate, take, drop, get_or, unsigned_abs, refl, ap, sym, ◌∙◌, arith, append_assoc, Result, Ok}
use Rattle.std.specs.Int.{is_negative}
use Rattle.std.specs.List.{range_with_len}
use Rattle.std.proofs.lemmas.Bool.{lt-ltb, le-ltb, le-leb, lt-leb, ltb-true, ltb-false}
use Rattle.std.proofs.lemmas.List.{get_or-take, get_or-drop, get_or_past, get_or-replicate, length-take, length-take-le, length-drop, length-replicate, length-map}
use Rattle.std.proofs.lemmas.List.FromFn.{fill_by_all}
use Rattle.std.proofs.Math.Nat.{mul-le-mul_right}
use Rattle.apl_arrays.specs.declared.cell.Cell.TheVariants.{Num, Char}
use Rattle.apl_arrays.specs.Index.{size_of, indices, is_within, position_in}
use Rattle.apl_arrays.specs.Cells.{Arr, Items, Numbers, Characters, cells_of}
use Rattle.apl_arrays.specs.Checks.{limited}
use Rattle.apl_arrays.specs.Results.{and_then, ok_map}
use Rattle.apl_arrays.specs.Structural.{made_of}
use Rattle.apl_faults.specs.declared.fault.Fault.{Fault}
use Rattle.apl_arrays.proofs.Gathers.{row_step, rows_from, one_axis}
use Rattle.apl_arrays.proofs.Order.{length-indices}
use Rattle.apl_reshape.specs.Take.{named_counts, on_axes, taken, taken_by, taken_for, taken_index, place_taken, place_from_end, element_or, taken_from, found_or_filled, widened, with_axes}
use Rattle.apl_reshape.proofs.Limits.{limited_shape}
use Rattle.apl_reshape.proofs.Ranges.{map_always, map_parts}

-- f of so many numbers, where it is the same for each
fills : {A : Type 0} (f : ℕ → A) (x : A) (n : ℕ) → ((k : ℕ) → k < n → f k ≡ x) → replicate n x ≡ map f (range_with_len 0 n)
fills f x n h = fill_by_all f (replicate n x) n x (length-replicate n x) (λ k l. get_or-replicate n k x x l ∙ sym (h k l))

-- the first items
pub first_items : {A : Type 0} (xs part out mid new : List A) (fill : A) (wanted kept : ℕ) → kept ≡ min wanted (length xs) → part ≡ take kept xs → mid ≡ out ++ part → new ≡ mid ++ replicate (wanted - kept) fill →
    new ≡ out ++ map (λ k. get_or xs k fill) (range_with_len 0 wanted)
first_items {A = A} xs part out mid new fill wanted kept e f g h =
    h
    ∙ ap (λ (l : List A). l ++ replicate (wanted - kept) fill) (g ∙ ap (λ (l : List A). out ++ l) f)
    ∙ append_assoc out (take kept xs) (replicate (wanted - kept) fill)
    ∙ ap (λ (l : List A). out ++ (l ++ replicate (wanted - kept) fill)) (fill_by_all (λ k. get_or xs k fill) (take kept xs) kept fill (length-take-le kept xs few) (λ k l. get_or-take kept xs k fill l))
    ∙ ap (λ (l : List A). out ++ (map (λ k. get_or xs k fill) (range_with_len 0 kept) ++ l)) (fills (λ r. get_or xs (kept + r) fill) fill (wanted - kept) (λ k l. get_or_past xs (kept + k) fill (past k l)))
    ∙ ap (λ (l : List A). out ++ l) (map_parts (λ k. get_or xs k fill) kept (wanted - kept) wanted all)
  where
    few : kept ≤ length xs
    few = omega (arith, e)

    past : (k : ℕ) → k < wanted - kept → length xs ≤ kept + k
    past k l = omega (arith, e)

    all : kept + (wanted - kept) ≡ wanted
    all = omega (arith, e)

-- the last items
pub last_items : {A : Type 0} (xs part out mid new : List A) (fill : A) (wanted kept : ℕ) → kept ≡ min wanted (length xs) → part ≡ drop (length xs - kept) xs → mid ≡ out ++ replicate (wanted - kept) fill → new ≡ mid ++ part →
    new ≡ out ++ map (λ k. get_or xs (place_from_end (length xs) wanted k) fill) (range_with_len 0 wanted)
last_items {A = A} xs part out mid new fill wanted kept e f g h =
    h
    ∙ ap (λ (l : List A). l ++ part) g
    ∙ append_assoc out (replicate (wanted - kept) fill) part
    ∙ ap (λ (l : List A). out ++ (replicate (wanted - kept) fill ++ l)) f
    ∙ ap (λ (l : List A). out ++ (l ++ drop (length xs - kept) xs)) (fills at fill (wanted - kept) before)
    ∙ ap (λ (l : List A). out ++ (map at (range_with_len 0 (wanted - kept)) ++ l))
    (fill_by_all (λ r. at ((wanted - kept) + r)) (drop (length xs - kept) xs) kept fill (length-drop (length xs - kept) xs ∙ left) behind)
    ∙ ap (λ (l : List A). out ++ l) (map_parts at (wanted - kept) kept wanted all)
  where
    at : ℕ → A
    at k = get_or xs (place_from_end (length xs) wanted k) fill

    left : length xs - (length xs - kept) ≡ kept
    left = omega (arith, e)

    all : (wanted - kept) + kept ≡ wanted
    all = omega (arith, e)

    more : (k : ℕ) → k < wanted - kept → k + length xs < wanted
    more k l = omega (arith, e)

    before : (k : ℕ) → k < wanted - kept → at k ≡ fill
    before k l =
        ap (λ (b : Bool). get_or xs (cond b (k + length xs - wanted) (length xs)) fill) (lt-leb wanted (k + length xs) (more k l))
        ∙ get_or_past xs (length xs) fill (same (length xs))
      where
        same : (n : ℕ) → n ≤ n
        same n = omega arith

    enough : (k : ℕ) → k < kept → wanted ≤ (wanted - kept) + k + length xs
    enough k l = omega (arith, e)

    place : (k : ℕ) → k < kept → (length xs - kept) + k ≡ (wanted - kept) + k + length xs - wanted
    place k l = omega (arith, e)

    behind : (k : ℕ) → k < kept → get_or (drop (length xs - kept) xs) k fill ≡ at ((wanted - kept) + k)
    behind k l =
        get_or-drop (length xs - kept) xs k fill
        ∙ ap (λ (p : ℕ). get_or xs p fill) (place k l)
        ∙ sym (ap (λ (b : Bool). get_or xs (cond b ((wanted - kept) + k + length xs - wanted) (length xs)) fill) (le-leb wanted ((wanted - kept) + k + length xs) (enough k l)))

-- an item of a line and the element at its place
same_line : {A : Type 0} (n : ℕ) (xs : List A) (fill : A) (j : ℕ) → get_or (take n xs) j fill ≡ element_or (n ∷ []) xs fill (j ∷ [])
same_line {A = A} n xs fill j = at (nat_lt j n) refl
  where
    turn : (j : ℕ) → j ≡ j * 1 + 0
    turn j = omega arith

    past : n ≤ j → length (take n xs) ≤ j
    past h = omega (arith, length-take n xs)

    at : (b : Bool) → nat_lt j n ≡ b → get_or (take n xs) j fill ≡ element_or (n ∷ []) xs fill (j ∷ [])
    at true e =
        get_or-take n xs j fill (ltb-true j n e)
        ∙ ap (λ (p : ℕ). get_or xs p fill) (turn j)
        ∙ sym (ap (λ (b : Bool). cond (b && true) (get_or xs (j * 1 + 0) fill) fill) e)
    at false e =
        get_or_past (take n xs) j fill (past (ltb-false j n e))
        ∙ sym (ap (λ (b : Bool). cond (b && true) (get_or xs (j * 1 + 0) fill) fill) e)

-- the place that is taken by its parts
pub place_by : (b : Bool) (s ls : List ℕ) (zs : List ℤ) (i j : ℕ) → 1 ≤ length zs → b ≡ is_negative (get_or zs 0 (pos 0)) → ls ≡ map unsigned_abs zs → j ≡ place_taken b (get_or s 0 0) (get_or ls 0 0) i →
    j ≡ taken_index (get_or s 0 0) (get_or zs 0 (pos 0)) i
place_by b s ls [] i j h e f g = absurd (omega arith)
place_by b s ls (z ∷ zs) i j h e f g =
    g ∙ ap (λ (c : Bool). place_taken c (get_or s 0 0) (get_or ls 0 0) i) e ∙ ap (λ (l : List ℕ). place_taken (is_negative z) (get_or s 0 0) (get_or l 0 0) i) f

-- the last axis
pub taken_line : {A : Type 0} (s : List ℕ) (zs : List ℤ) (ls : List ℕ) (xs line out new : List A) (fill : A) (b : Bool) → length zs ≡ 1 → length s ≡ length zs → ls ≡ map unsigned_abs zs → size_of s ≤ length xs →
    line ≡ take (get_or s 0 0) xs → b ≡ is_negative (get_or zs 0 (pos 0)) → new ≡ out ++ map (λ k. get_or line (place_taken b (length line) (get_or ls 0 0) k) fill) (range_with_len 0 (get_or ls 0 0)) →
    new ≡ out ++ map (taken_from s zs xs fill) (indices ls)
taken_line [] [] ls xs line out new fill b h l e m f d g = absurd (omega arith)
taken_line [] (z ∷ zs) ls xs line out new fill b h l e m f d g = absurd (omega arith)
taken_line (n ∷ s) [] ls xs line out new fill b h l e m f d g = absurd (omega arith)
taken_line (n ∷ k ∷ s) (z ∷ []) ls xs line out new fill b h l e m f d g = absurd (omega arith)
taken_line (n ∷ s) (z ∷ y ∷ zs) ls xs line out new fill b h l e m f d g = absurd (omega arith)
taken_line {A = A} (n ∷ []) (z ∷ []) ls xs line out new fill b h l e m f d g =
    g
    ∙ ap (λ (c : Bool). out ++ map (λ k. get_or line (place_taken c (length line) (get_or ls 0 0) k) fill) (range_with_len 0 (get_or ls 0 0))) d
    ∙ ap (λ (w : List ℕ). out ++ map (λ k. get_or line (place_taken (is_negative z) (length line) (get_or w 0 0) k) fill) (range_with_len 0 (get_or w 0 0))) e
    ∙ ap (λ (w : List A). out ++ map (λ k. get_or w (taken_index (length w) z k) fill) (range_with_len 0 (unsigned_abs z))) f
    ∙ ap (λ (w : ℕ). out ++ map (λ k. get_or (take n xs) (taken_index w z k) fill) (range_with_len 0 (unsigned_abs z))) (length-take-le n xs (few n (length xs) m))
    ∙ ap (λ (w : List A). out ++ w) (map_always (λ k. get_or (take n xs) (taken_index n z k) fill) (λ k. taken_from (n ∷ []) (z ∷ []) xs fill (k ∷ [])) (λ k. same_line n xs fill (taken_index n z k)) (range_with_len 0 (unsigned_abs z)))
    ∙ ap (λ (w : List A). out ++ w) (sym (one_axis (taken_from (n ∷ []) (z ∷ []) xs fill) (unsigned_abs z)))
    ∙ ap (λ (w : List ℕ). out ++ map (taken_from (n ∷ []) (z ∷ []) xs fill) (indices w)) (sym e)
  where
    few : (n m : ℕ) → n * 1 ≤ m → n ≤ m
    few n m h = omega arith

-- a row of elements, and a row of fills
row_inside : {A : Type 0} (s : List ℕ) (zs : List ℤ) (xs : List A) (fill : A) (i j step : ℕ) → 1 ≤ length s → 1 ≤ length zs → j ≡ taken_index (get_or s 0 0) (get_or zs 0 (pos 0)) i → j < get_or s 0 0 → step ≡ size_of (drop 1 s) →
    (is : List ℕ) → taken_from (drop 1 s) (drop 1 zs) (drop (j * step) xs) fill is ≡ taken_from s zs xs fill (i ∷ is)
row_inside [] zs xs fill i j step h l e f g is = absurd (omega arith)
row_inside (n ∷ s) [] xs fill i j step h l e f g is = absurd (omega arith)
row_inside {A = A} (n ∷ s) (z ∷ zs) xs fill i j step h l e f g is =
    ap (λ (m : ℕ). cond (is_within s (on_axes taken_index s zs is)) (get_or (drop (j * m) xs) (position_in s (on_axes taken_index s zs is)) fill) fill) g
    ∙ ap (λ (x : A). cond (is_within s (on_axes taken_index s zs is)) x fill) (get_or-drop (j * size_of s) xs (position_in s (on_axes taken_index s zs is)) fill)
    ∙ sym (ap (λ (b : Bool). cond (b && is_within s (on_axes taken_index s zs is)) (get_or xs (j * size_of s + position_in s (on_axes taken_index s zs is)) fill) fill) (lt-ltb j n f))
    ∙ ap (λ (m : ℕ). cond (nat_lt m n && is_within s (on_axes taken_index s zs is)) (get_or xs (m * size_of s + position_in s (on_axes taken_index s zs is)) fill) fill) e

row_outside : {A : Type 0} (s : List ℕ) (zs : List ℤ) (xs : List A) (fill : A) (i j : ℕ) → 1 ≤ length s → 1 ≤ length zs → j ≡ taken_index (get_or s 0 0) (get_or zs 0 (pos 0)) i → get_or s 0 0 ≤ j →
    (is : List ℕ) → fill ≡ taken_from s zs xs fill (i ∷ is)
row_outside [] zs xs fill i j h l e f is = absurd (omega arith)
row_outside (n ∷ s) [] xs fill i j h l e f is = absurd (omega arith)
row_outside {A = A} (n ∷ s) (z ∷ zs) xs fill i j h l e f is =
    sym (ap (λ (b : Bool). cond (b && is_within s (on_axes taken_index s zs is)) (get_or xs (j * size_of s + position_in s (on_axes taken_index s zs is)) fill) fill) (le-ltb j n f))
    ∙ ap (λ (m : ℕ). cond (nat_lt m n && is_within s (on_axes taken_index s zs is)) (get_or xs (m * size_of s + position_in s (on_axes taken_index s zs is)) fill) fill) e

-- one row more
pub step_inside : {A : Type 0} (s s' : List ℕ) (zs zs' : List ℤ) (ls ls' : List ℕ) (xs row out new : List A) (fill : A) (i j n step : ℕ) → i < n → 1 ≤ length s → 1 ≤ length zs →
    j ≡ taken_index (get_or s 0 0) (get_or zs 0 (pos 0)) i → j < get_or s 0 0 → step ≡ size_of s' → s' ≡ drop 1 s → zs' ≡ drop 1 zs → ls' ≡ drop 1 ls → row ≡ drop (j * step) xs →
    new ≡ out ++ map (taken_from s' zs' row fill) (indices ls') →
    new ++ map (taken_from s zs xs fill) (rows_from (drop 1 ls) (i + 1) n) ≡ out ++ map (taken_from s zs xs fill) (rows_from (drop 1 ls) i n)
step_inside {A = A} s s' zs zs' ls ls' xs row out new fill i j n step h a b e f g u v w x m =
    row_step (taken_from s zs xs fill) (drop 1 ls) i n out new h
    (m
    ∙ ap (λ (t : List ℕ). out ++ map (taken_from t zs' row fill) (indices ls')) u
    ∙ ap (λ (t : List ℤ). out ++ map (taken_from (drop 1 s) t row fill) (indices ls')) v
    ∙ ap (λ (t : List ℕ). out ++ map (taken_from (drop 1 s) (drop 1 zs) row fill) (indices t)) w
    ∙ ap (λ (t : List A). out ++ map (taken_from (drop 1 s) (drop 1 zs) t fill) (indices (drop 1 ls))) x
    ∙ ap (λ (t : List A). out ++ t) (map_always (taken_from (drop 1 s) (drop 1 zs) (drop (j * step) xs) fill) (λ is. taken_from s zs xs fill (i ∷ is)) (row_inside s zs xs fill i j step a b e f (g ∙ ap size_of u)) (indices (drop 1 ls))))

replicate_over : {A B : Type 0} (f : B → A) (x : A) → ((y : B) → x ≡ f y) → (ys : List B) → replicate (length ys) x ≡ map f ys
replicate_over f x h [] = refl
replicate_over {A = A} f x h (y ∷ ys) = ap (λ (l : List A). x ∷ l) (replicate_over f x h ys) ∙ ap (λ (z : A). z ∷ map f ys) (h y)

pub step_outside : {A : Type 0} (s : List ℕ) (zs : List ℤ) (ls ls' : List ℕ) (xs out new : List A) (fill : A) (i j n many : ℕ) → i < n → 1 ≤ length s → 1 ≤ length zs →
    j ≡ taken_index (get_or s 0 0) (get_or zs 0 (pos 0)) i → get_or s 0 0 ≤ j → many ≡ size_of ls' → ls' ≡ drop 1 ls →
    new ≡ out ++ replicate many fill →
    new ++ map (taken_from s zs xs fill) (rows_from (drop 1 ls) (i + 1) n) ≡ out ++ map (taken_from s zs xs fill) (rows_from (drop 1 ls) i n)
step_outside {A = A} s zs ls ls' xs out new fill i j n many h a b e f g w m =
    row_step (taken_from s zs xs fill) (drop 1 ls) i n out new h
    (m
    ∙ ap (λ (t : ℕ). out ++ replicate t fill) (g ∙ ap size_of w ∙ sym (length-indices (drop 1 ls)))
    ∙ ap (λ (t : List A). out ++ t) (replicate_over (λ is. taken_from s zs xs fill (i ∷ is)) fill (row_outside s zs xs fill i j a b e f) (indices (drop 1 ls))))

-- the items of a row lie behind those of the rows before
pub room_of_row : {A : Type 0} (s s' : List ℕ) (xs row : List A) (j step : ℕ) → 1 ≤ length s → size_of s ≤ length xs → j < get_or s 0 0 → step ≡ size_of s' → s' ≡ drop 1 s → row ≡ drop (j * step) xs → size_of s' ≤ length row
room_of_row [] s' xs row j step h r l e f g = absurd (omega arith)
room_of_row (n ∷ s) s' xs row j step h r l e f g =
    less n j step (size_of s) (size_of s') (length xs) (length row) (e ∙ ap size_of f) (ap size_of f) l r (ap length g ∙ length-drop (j * step) xs)
  where
    less : (n j t m u x y : ℕ) → t ≡ m → u ≡ m → j < n → n * m ≤ x → y ≡ x - j * t → u ≤ y
    less n j t m u x y e f l r g = rw (f) (let h : (j + 1) * m ≤ n * m = mul-le-mul_right m (omega arith) in let k : j * t ≡ j * m = ap (λ t. j * t) e in omega arith)

-- as many elements as are taken
-- what is taken of elements
pub made_taken : (s : List ℕ) (zs : List ℤ) (ls : List ℕ) (items : Items) → made_of (λ A d fill xs. map (taken_from s zs xs fill) (indices ls)) items ≡ taken_for s zs items (indices ls)
made_taken s zs ls (Numbers xs) = refl
made_taken s zs ls (Characters cs) = refl

-- what is taken, part by part
pub taken_as : (a b r : Arr) (zs : List ℤ) (s l : List ℕ) (items made : Items) → named_counts a b.shape ≡ Ok zs → limited (map unsigned_abs zs) ≡ Ok l → s ≡ with_axes (length zs) b.shape → items ≡ b.items →
    made ≡ made_of (λ A d fill xs. map (taken_from s zs xs fill) (indices l)) items → r ≡ record { shape = l; items = made } → taken a b ≡ Ok r
taken_as a b r zs s l items made e f g h m k =
    ap (λ (x : Result (List ℤ) Fault). and_then x (λ zs. ok_map (λ ok. taken_by zs (widened (length zs) b)) (limited (map unsigned_abs zs)))) e
    ∙ ap (ok_map (λ ok. taken_by zs (widened (length zs) b))) f
    ∙ ap (λ (x : Arr). Ok x)
    (ap (λ (t : List ℕ). record { shape = t; items = taken_for (with_axes (length zs) b.shape) zs b.items (indices t) }) (sym (limited_shape (map unsigned_abs zs) l f).0)
    ∙ sym
    (k ∙ ap (λ (t : Items). record { shape = l; items = t })
    (m ∙ made_taken s zs l items ∙ ap (λ (t : List ℕ). taken_for t zs items (indices l)) g ∙ ap (λ (t : Items). taken_for (with_axes (length zs) b.shape) zs t (indices l)) h)))

pub length-found : (s : List ℕ) (items : Items) (g : List ℕ → List ℕ) (ls : List ℕ) → length (cells_of (found_or_filled s items g (indices ls))) ≡ size_of ls
length-found s (Numbers zs) g ls = length-map (map (λ i. element_or s zs (pos 0) (g i)) (indices ls)) Num ∙ length-map (indices ls) (λ i. element_or s zs (pos 0) (g i)) ∙ length-indices ls
length-found s (Characters cs) g ls = length-map (map (λ i. element_or s cs 32 (g i)) (indices ls)) Char ∙ length-map (indices ls) (λ i. element_or s cs 32 (g i)) ∙ length-indices ls
