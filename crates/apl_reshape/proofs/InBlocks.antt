-- Rows made of blocks.
use Rattle.std.proofs.Common.{pos, subst, Result, Ok, nat_lt, ◌≡◌, ℕ, ℤ, ◌+◌, ◌-◌, ◌*◌, ◌<◌, ◌≤◌, Bool, true, false, cond, List, [], ◌∷◌, ◌++◌, map, length, replicate, take, drop, get_or, refl, ap, sym, ◌∙◌, arith, append_assoc, append-nil}
use Rattle.std.specs.List.{flat_map, range_with_len}
use Rattle.std.proofs.lemmas.Grind.{flat_map-append}
use Rattle.std.proofs.lemmas.List.{get_or_read, get_or-take, get_or-drop, length-map, length-take-le, length-drop}
use Rattle.std.proofs.lemmas.List.FromFn.{fill_by_all}
use Rattle.std.specs.Prelude.{IfOk}
use Rattle.apl_faults.specs.declared.fault.Fault.{Fault}
use Rattle.apl_arrays.specs.declared.cell.Cell.TheVariants.{Num, Char}
use Rattle.apl_arrays.specs.Axes.{without}
use Rattle.apl_arrays.specs.Cells.{Items, Numbers, Characters, cells_of}
use Rattle.apl_arrays.specs.Checks.{same}
use Rattle.apl_arrays.specs.Index.{size_of, indices, position_in}
use Rattle.apl_arrays.specs.Views.{on_axis}
use Rattle.apl_arrays.proofs.Order.{length-indices}
use Rattle.apl_reshape.specs.declared.blocks.Block.{Block}
use Rattle.apl_reshape.specs.Catenate.{place_in, joined_at, joined_items, joined_shape, of_one_type, Both, BothNumbers, BothCharacters}
use Rattle.apl_reshape.specs.inside.Rows.{blocks, item_at, needed, rows_of, is_scalar_shape, HasRows}
use Rattle.apl_reshape.proofs.JoinedRows.{by_blocks, joined_from}
use Rattle.apl_reshape.proofs.Ranges.{map_one, map_always, range-append}

-- a block of a scalar
pub scalar_block : {A : Type 0} (b : Bool) (xs out new : List A) (x d : A) (row len : ℕ) → b ≡ true → cond b 1 ((row + 1) * len) ≤ length xs → x ≡ get_or xs 0 x → new ≡ out ++ replicate len x →
    new ≡ out ++ map (λ r. item_at b xs d (row * len + r)) (range_with_len 0 len)
scalar_block false xs out new x d row len e h f g = absurd (cc)
scalar_block {A = A} true xs out new x d row len e h f g =
    g ∙ ap (λ (l : List A). out ++ l) (sym (map_one (λ r. get_or xs 0 d) x (λ k. sym (get_or_read xs 0 x (omega arith) f d)) 0 len))

-- a block of any other operand
pub item_block : {A : Type 0} (b : Bool) (xs part out new : List A) (d : A) (row len : ℕ) → b ≡ false → cond b 1 ((row + 1) * len) ≤ length xs → part ≡ take len (drop (row * len) xs) → new ≡ out ++ part →
    new ≡ out ++ map (λ r. item_at b xs d (row * len + r)) (range_with_len 0 len)
item_block true xs part out new d row len e h f g = absurd (cc)
item_block {A = A} false xs part out new d row len e h f g =
    g ∙ ap (λ (l : List A). out ++ l)
    (f ∙ fill_by_all (λ r. get_or xs (row * len + r) d) (take len (drop (row * len) xs)) len d (length-take-le len (drop (row * len) xs) (room row len (length xs) (length (drop (row * len) xs)) h (length-drop (row * len) xs)))
    (λ k l. get_or-take len (drop (row * len) xs) k d l ∙ get_or-drop (row * len) xs k d))
  where
    room : (r l n m : ℕ) → (r + 1) * l ≤ n → m ≡ n - r * l → l ≤ m
    room r l n m h e = let g : (r + 1) * l ≡ r * l + l = omega arith in omega arith

-- one row more
pub rows_more : {A : Type 0} (F G : ℕ → A) (a b : ℕ) (out mid new : List A) (row : ℕ) → out ≡ flat_map (blocks F G a b) (range_with_len 0 row) → mid ≡ out ++ map (λ r. F (row * a + r)) (range_with_len 0 a) →
    new ≡ mid ++ map (λ r. G (row * b + r)) (range_with_len 0 b) → new ≡ flat_map (blocks F G a b) (range_with_len 0 (row + 1))
rows_more {A = A} F G a b out mid new row e f g =
    g
    ∙ ap (λ (l : List A). l ++ map (λ r. G (row * b + r)) (range_with_len 0 b)) f
    ∙ append_assoc out (map (λ r. F (row * a + r)) (range_with_len 0 a)) (map (λ r. G (row * b + r)) (range_with_len 0 b))
    ∙ ap (λ (l : List A). l ++ blocks F G a b row) e
    ∙ ap (λ (l : List A). flat_map (blocks F G a b) (range_with_len 0 row) ++ l) (sym (append-nil (blocks F G a b row)))
    ∙ ap (λ (k : ℕ). flat_map (blocks F G a b) (range_with_len 0 row) ++ flat_map (blocks F G a b) (range_with_len k 1)) (there row)
    ∙ sym (flat_map-append (blocks F G a b) (range_with_len 0 row) (range_with_len (0 + row) 1))
    ∙ ap (flat_map (blocks F G a b)) (range-append 0 row 1)
  where
    there : (n : ℕ) → n ≡ 0 + n
    there n = omega arith

-- a scalar's place, and that of any other operand
place_at : (own s i : List ℕ) → place_in own s i ≡ cond (is_scalar_shape own) 0 (position_in s i)
place_at [] s i = refl
place_at (n ∷ own) s i = refl

rows_list : {A : Type 0} (axis : ℕ) (u v s t : List ℕ) (xs ys : List A) (d : A) → axis < length s → length s ≡ length t → same (without axis s) (without axis t) ≡ true →
    map (joined_at axis (get_or s axis 0) (place_in u s) (place_in v t) d xs ys) (indices (joined_shape axis s t))
    ≡ flat_map (blocks (item_at (is_scalar_shape u) xs d) (item_at (is_scalar_shape v) ys d) (size_of (drop axis s)) (size_of (drop axis t))) (range_with_len 0 (size_of (take axis s)))
rows_list {A = A} axis u v s t xs ys d h l e =
    map_always (joined_at axis (get_or s axis 0) (place_in u s) (place_in v t) d xs ys) (joined_from axis s t (item_at (is_scalar_shape u) xs d) (item_at (is_scalar_shape v) ys d)) here (indices (joined_shape axis s t))
    ∙ by_blocks axis s t (item_at (is_scalar_shape u) xs d) (item_at (is_scalar_shape v) ys d) h l e
  where
    here : (i : List ℕ) → joined_at axis (get_or s axis 0) (place_in u s) (place_in v t) d xs ys i ≡ joined_from axis s t (item_at (is_scalar_shape u) xs d) (item_at (is_scalar_shape v) ys d) i
    here i =
        ap (λ (p : ℕ). cond (nat_lt (get_or i axis 0) (get_or s axis 0)) (get_or xs p d) (get_or ys (place_in v t (on_axis axis (λ k. k - get_or s axis 0) i)) d)) (place_at u s i)
        ∙ ap (λ (p : ℕ). cond (nat_lt (get_or i axis 0) (get_or s axis 0)) (get_or xs (cond (is_scalar_shape u) 0 (position_in s i)) d) (get_or ys p d)) (place_at v t (on_axis axis (λ k. k - get_or s axis 0) i))

-- the joined elements are rows of blocks
pub rows_items : (axis : ℕ) (u v s t : List ℕ) (both : Both) (x y : Block) → axis < length s → length s ≡ length t → same (without axis s) (without axis t) ≡ true →
    x.is_scalar ≡ is_scalar_shape u → x.len ≡ size_of (drop axis s) → y.is_scalar ≡ is_scalar_shape v → y.len ≡ size_of (drop axis t) →
    rows_of x y (size_of (take axis s)) both ≡ joined_items axis (get_or s axis 0) (place_in u s) (place_in v t) both (indices (joined_shape axis s t))
rows_items axis u v s t (BothNumbers xs ys) x y h l e a b c d =
    ap (λ (z : Bool). Numbers (flat_map (blocks (item_at z xs (pos 0)) (item_at y.is_scalar ys (pos 0)) x.len y.len) (range_with_len 0 (size_of (take axis s))))) a
    ∙ ap (λ (z : ℕ). Numbers (flat_map (blocks (item_at (is_scalar_shape u) xs (pos 0)) (item_at y.is_scalar ys (pos 0)) z y.len) (range_with_len 0 (size_of (take axis s))))) b
    ∙ ap (λ (z : Bool). Numbers (flat_map (blocks (item_at (is_scalar_shape u) xs (pos 0)) (item_at z ys (pos 0)) (size_of (drop axis s)) y.len) (range_with_len 0 (size_of (take axis s))))) c
    ∙ ap (λ (z : ℕ). Numbers (flat_map (blocks (item_at (is_scalar_shape u) xs (pos 0)) (item_at (is_scalar_shape v) ys (pos 0)) (size_of (drop axis s)) z) (range_with_len 0 (size_of (take axis s))))) d
    ∙ ap (λ (zs : List ℤ). Numbers zs) (sym (rows_list axis u v s t xs ys (pos 0) h l e))
rows_items axis u v s t (BothCharacters xs ys) x y h l e a b c d =
    ap (λ (z : Bool). Characters (flat_map (blocks (item_at z xs 0) (item_at y.is_scalar ys 0) x.len y.len) (range_with_len 0 (size_of (take axis s))))) a
    ∙ ap (λ (z : ℕ). Characters (flat_map (blocks (item_at (is_scalar_shape u) xs 0) (item_at y.is_scalar ys 0) z y.len) (range_with_len 0 (size_of (take axis s))))) b
    ∙ ap (λ (z : Bool). Characters (flat_map (blocks (item_at (is_scalar_shape u) xs 0) (item_at z ys 0) (size_of (drop axis s)) y.len) (range_with_len 0 (size_of (take axis s))))) c
    ∙ ap (λ (z : ℕ). Characters (flat_map (blocks (item_at (is_scalar_shape u) xs 0) (item_at (is_scalar_shape v) ys 0) (size_of (drop axis s)) z) (range_with_len 0 (size_of (take axis s))))) d
    ∙ ap (λ (zs : List ℕ). Characters zs) (sym (rows_list axis u v s t xs ys 0 h l e))

pub made_items : (axis rows : ℕ) (u v s t : List ℕ) (both : Both) (x y : Block) (made : Items) → axis < length s → length s ≡ length t → same (without axis s) (without axis t) ≡ true →
    x.is_scalar ≡ is_scalar_shape u → x.len ≡ size_of (drop axis s) → y.is_scalar ≡ is_scalar_shape v → y.len ≡ size_of (drop axis t) → rows ≡ size_of (take axis s) → made ≡ rows_of x y rows both →
    made ≡ joined_items axis (get_or s axis 0) (place_in u s) (place_in v t) both (indices (joined_shape axis s t))
made_items axis rows u v s t both x y made h l e a b c d r m =
    m ∙ ap (λ (k : ℕ). rows_of x y k both) r ∙ rows_items axis u v s t both x y h l e a b c d

-- as many elements as the joined shape has index lists
pub length-joined : (axis n : ℕ) (first second : List ℕ → ℕ) (both : Both) (s : List ℕ) → length (cells_of (joined_items axis n first second both (indices s))) ≡ size_of s
length-joined axis n first second (BothNumbers xs ys) s = length-map (map (joined_at axis n first second (pos 0) xs ys) (indices s)) Num ∙ length-map (indices s) (joined_at axis n first second (pos 0) xs ys) ∙ length-indices s
length-joined axis n first second (BothCharacters xs ys) s = length-map (map (joined_at axis n first second 0 xs ys) (indices s)) Char ∙ length-map (indices s) (joined_at axis n first second 0 xs ys) ∙ length-indices s

-- the operands keep their items
pub has_rows : (x y : Block) (rows : ℕ) (i j : Items) (both : Both) → of_one_type i j ≡ Ok both → needed x rows ≤ length (cells_of i) → needed y rows ≤ length (cells_of j) → HasRows x y rows both
has_rows x y rows i j both e h g = let P : Result Both Fault → Type 0 = λ r. IfOk r (HasRows x y rows) in subst P e (each i j h g)
  where
    each : (i j : Items) → needed x rows ≤ length (cells_of i) → needed y rows ≤ length (cells_of j) → IfOk (of_one_type i j) (HasRows x y rows)
    each (Numbers xs) (Numbers ys) h g = (omega (arith, length-map xs Num), omega (arith, length-map ys Num))
    each (Characters xs) (Characters ys) h g = (omega (arith, length-map xs Char), omega (arith, length-map ys Char))
    each (Numbers []) (Characters ys) h g = (h, omega (arith, length-map ys Char))
    each (Numbers (x ∷ xs)) (Characters []) h g = (omega (arith, length-map (x ∷ xs) Num), g)
    each (Numbers (x ∷ xs)) (Characters (y ∷ ys)) h g = tt
    each (Characters []) (Numbers ys) h g = (h, omega (arith, length-map ys Num))
    each (Characters (x ∷ xs)) (Numbers []) h g = (omega (arith, length-map (x ∷ xs) Char), g)
    each (Characters (x ∷ xs)) (Numbers (y ∷ ys)) h g = tt
