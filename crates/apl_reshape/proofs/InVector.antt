-- Scalars and vectors, joined along their one axis.
use Rattle.std.proofs.Common.{pos, subst, ◌≡◌, ◌==◌, ℕ, ◌+◌, ◌*◌, ◌<◌, ◌≤◌, max, Bool, true, false, List, [], ◌∷◌, ◌++◌, length, get_or, Result, Ok, Err, refl, ap, sym, ◌∙◌, arith, append-nil, mul-one, length-append}
use Rattle.std.specs.Prelude.{IfOk}
use Rattle.std.proofs.lemmas.List.{length-map}
use Rattle.std.proofs.lemmas.List.FromFn.{fill_by_all}
use Rattle.apl_faults.specs.declared.fault.Fault.{Fault}
use Rattle.apl_faults.specs.declared.fault.Fault.TheVariants.{Rank, Length, Limit}
use Rattle.apl_arrays.specs.declared.cell.Cell.TheVariants.{Num, Char}
use Rattle.apl_arrays.specs.Axes.{without}
use Rattle.apl_arrays.specs.Cells.{Arr, Items, Numbers, Characters, cells_of}
use Rattle.apl_arrays.specs.Checks.{count_of, demand, is_limited, limited, same}
use Rattle.apl_arrays.specs.Index.{size_of, indices}
use Rattle.apl_arrays.specs.Results.{and_then, ok_map}
use Rattle.apl_reshape.specs.declared.blocks.Block.{Block}
use Rattle.apl_reshape.specs.Catenate.{Both, beside, joined_array, joined_items, joined_of, joined_on, of_one_type, place_in}
use Rattle.apl_reshape.specs.inside.Rows.{is_scalar_shape, item_at, needed, row_block, rows_of, rows_of_lists}
use Rattle.apl_reshape.specs.inside.Vectors.{appended, joined_vectors}
use Rattle.apl_reshape.proofs.InBlocks.{rows_items}

-- what two operands' elements come to, where they are of one type
of_both : (P : Items → Items → Both → Type 0) → ((i j : Items) → IfOk (of_one_type i j) (P i j)) → (i j : Items) (both : Both) → of_one_type i j ≡ Ok both → P i j both
of_both P each i j both e = let Q : Result Both Fault → Type 0 = λ r. IfOk r (P i j) in subst Q e (each i j)

-- an operand of at most one axis is a vector beside another
vector_beside : (u v : List ℕ) → length u ≤ 1 → length v ≤ 1 → beside 0 u v ≡ size_of u ∷ []
vector_beside [] [] h g = refl
vector_beside [] (n ∷ []) h g = refl
vector_beside [] (n ∷ m ∷ v) h g = absurd (omega arith)
vector_beside (n ∷ []) [] h g = ap (λ (m : ℕ). m ∷ []) (sym (mul-one n))
vector_beside (n ∷ []) (m ∷ []) h g = ap (λ (m : ℕ). m ∷ []) (sym (mul-one n))
vector_beside (n ∷ []) (m ∷ k ∷ v) h g = absurd (omega arith)
vector_beside (n ∷ k ∷ u) v h g = absurd (omega arith)

-- the block of a single row has all items
whole_block : {A : Type 0} (b : Bool) (xs : List A) (d : A) (n : ℕ) → length xs ≡ n → (b ≡ true → n ≡ 1) → row_block (item_at b xs d) n 0 ≡ xs
whole_block true xs d n e one = sym (fill_by_all (λ r. get_or xs 0 d) xs n d e (λ k l. ap (λ (p : ℕ). get_or xs p d) (first k n l (one refl))))
  where
    first : (k n : ℕ) → k < n → n ≡ 1 → k ≡ 0
    first k n l e = omega arith
whole_block false xs d n e one = sym (fill_by_all (λ r. get_or xs (0 * n + r) d) xs n d e (λ k l. ap (λ (p : ℕ). get_or xs p d) (there k n)))
  where
    there : (k n : ℕ) → k ≡ 0 * n + k
    there k n = omega arith

single_row : {A : Type 0} (x y : Block) (xs ys : List A) (d : A) → length xs ≡ x.len → length ys ≡ y.len → (x.is_scalar ≡ true → x.len ≡ 1) → (y.is_scalar ≡ true → y.len ≡ 1) → rows_of_lists x y 1 xs ys d ≡ xs ++ ys
single_row {A = A} x y xs ys d e f g h =
    append-nil (row_block (item_at x.is_scalar xs d) x.len 0 ++ row_block (item_at y.is_scalar ys d) y.len 0)
    ∙ ap (λ (l : List A). l ++ row_block (item_at y.is_scalar ys d) y.len 0) (whole_block x.is_scalar xs d x.len e g)
    ∙ ap (λ (l : List A). xs ++ l) (whole_block y.is_scalar ys d y.len f h)

single_row_items : (x y : Block) → (x.is_scalar ≡ true → x.len ≡ 1) → (y.is_scalar ≡ true → y.len ≡ 1) → (i j : Items) (both : Both) → of_one_type i j ≡ Ok both →
    length (cells_of i) ≡ x.len → length (cells_of j) ≡ y.len → rows_of x y 1 both ≡ appended both
single_row_items x y g h = of_both (λ i j both. length (cells_of i) ≡ x.len → length (cells_of j) ≡ y.len → rows_of x y 1 both ≡ appended both) each
  where
    each : (i j : Items) → IfOk (of_one_type i j) (λ both. length (cells_of i) ≡ x.len → length (cells_of j) ≡ y.len → rows_of x y 1 both ≡ appended both)
    each (Numbers xs) (Numbers ys) = λ e f. ap Numbers (single_row x y xs ys (pos 0) (sym (length-map xs Num) ∙ e) (sym (length-map ys Num) ∙ f) g h)
    each (Characters xs) (Characters ys) = λ e f. ap Characters (single_row x y xs ys 0 (sym (length-map xs Char) ∙ e) (sym (length-map ys Char) ∙ f) g h)
    each (Numbers []) (Characters ys) = λ e f. ap Characters (single_row x y [] ys 0 e (sym (length-map ys Char) ∙ f) g h)
    each (Numbers (x1 ∷ xs)) (Characters []) = λ e f. ap Numbers (single_row x y (x1 ∷ xs) [] (pos 0) (sym (length-map (x1 ∷ xs) Num) ∙ e) f g h)
    each (Numbers (x1 ∷ xs)) (Characters (y1 ∷ ys)) = tt
    each (Characters []) (Numbers ys) = λ e f. ap Numbers (single_row x y [] ys (pos 0) e (sym (length-map ys Num) ∙ f) g h)
    each (Characters (x1 ∷ xs)) (Numbers []) = λ e f. ap Characters (single_row x y (x1 ∷ xs) [] 0 (sym (length-map (x1 ∷ xs) Char) ∙ e) f g h)
    each (Characters (x1 ∷ xs)) (Numbers (y1 ∷ ys)) = tt

-- operands whose elements stand in a single row
pub one_row : (x y : Block) (i j made : Items) (both : Both) (m n : ℕ) → of_one_type i j ≡ Ok both → x ≡ record { is_scalar = false; len = m } → y ≡ record { is_scalar = false; len = n } →
    m ≡ length (cells_of i) → n ≡ length (cells_of j) → made ≡ rows_of x y 1 both → made ≡ appended both
one_row x y i j made both m n e f g k l h =
    h ∙ single_row_items x y (none x m f) (none y n g) i j both e (sym k ∙ sym (ap (λ (b : Block). b.len) f)) (sym l ∙ sym (ap (λ (b : Block). b.len) g))
  where
    none : (x : Block) (m : ℕ) → x ≡ record { is_scalar = false; len = m } → x.is_scalar ≡ true → x.len ≡ 1
    none x m f t = let no : x.is_scalar ≡ false = ap (λ (b : Block). b.is_scalar) f in absurd (cc)

pub row_needed : (x : Block) (m n : ℕ) → x ≡ record { is_scalar = false; len = m } → m ≡ n → needed x 1 ≤ n
row_needed x m n e f = rw e (omega arith)

-- as many elements as both have
pub appended_count : (i j : Items) (both : Both) → of_one_type i j ≡ Ok both → length (cells_of (appended both)) ≡ length (cells_of i) + length (cells_of j)
appended_count = of_both (λ i j both. length (cells_of (appended both)) ≡ length (cells_of i) + length (cells_of j)) each
  where
    each : (i j : Items) → IfOk (of_one_type i j) (λ both. length (cells_of (appended both)) ≡ length (cells_of i) + length (cells_of j))
    each (Numbers xs) (Numbers ys) = omega (arith, length-map (xs ++ ys) Num, length-map xs Num, length-map ys Num, length-append xs ys)
    each (Characters xs) (Characters ys) = omega (arith, length-map (xs ++ ys) Char, length-map xs Char, length-map ys Char, length-append xs ys)
    each (Numbers []) (Characters ys) = omega arith
    each (Numbers (x ∷ xs)) (Characters []) = omega (arith, length-map (xs ++ []) Num, length-map xs Num, length-append xs [])
    each (Numbers (x ∷ xs)) (Characters (y ∷ ys)) = tt
    each (Characters []) (Numbers ys) = omega arith
    each (Characters (x ∷ xs)) (Numbers []) = omega (arith, length-map (xs ++ []) Char, length-map xs Char, length-append xs [])
    each (Characters (x ∷ xs)) (Numbers (y ∷ ys)) = tt

-- both in a vector, part by part
pub joined_as_vector : (a b r : Arr) (i j made : Items) (both : Both) (m n : ℕ) → of_one_type i j ≡ Ok both → i ≡ a.items → j ≡ b.items → m ≡ length (cells_of i) → n ≡ length (cells_of j) →
    limited ((m + n) ∷ []) ≡ Ok ((m + n) ∷ []) → made ≡ appended both → r ≡ record { shape = (m + n) ∷ []; items = made } → joined_vectors a b ≡ Ok r
joined_as_vector a b r i j made both m n e f g k l h t u =
    ap (λ (x : Result Both Fault). and_then x (λ both. ok_map (λ shape. record { shape = shape; items = appended both }) (limited ((count_of a + count_of b) ∷ []))))
    (ap (λ (z : Items). of_one_type z b.items) (sym f) ∙ ap (of_one_type i) (sym g) ∙ e)
    ∙ ap (ok_map (λ shape. record { shape = shape; items = appended both })) (ap (λ (p : ℕ). limited (p ∷ [])) counted ∙ h)
    ∙ ap (λ (z : Items). Ok (record { shape = (m + n) ∷ []; items = z })) (sym t)
    ∙ ap (λ (z : Arr). Ok z) (sym u)
  where
    counted : count_of a + count_of b ≡ m + n
    counted = omega (arith, ap (λ (z : Items). length (cells_of z)) f, ap (λ (z : Items). length (cells_of z)) g)

-- what stands of an operand in the single row
whole : List ℕ → Block
whole s = record { is_scalar = is_scalar_shape s; len = size_of s * 1 }

scalar_size : (s : List ℕ) → is_scalar_shape s ≡ true → size_of s * 1 ≡ 1
scalar_size [] e = refl
scalar_size (n ∷ s) e = absurd (cc)

one_axis_items : (a b : Arr) (both : Both) → of_one_type a.items b.items ≡ Ok both → length (cells_of a.items) ≡ size_of a.shape → length (cells_of b.items) ≡ size_of b.shape →
    joined_items 0 (size_of a.shape) (place_in a.shape (size_of a.shape ∷ [])) (place_in b.shape (size_of b.shape ∷ [])) both (indices ((size_of a.shape + size_of b.shape) ∷ [])) ≡ appended both
unfolding whole
one_axis_items a b both e f g =
    sym (rows_items 0 a.shape b.shape (size_of a.shape ∷ []) (size_of b.shape ∷ []) both (whole a.shape) (whole b.shape) (omega arith) refl refl refl refl refl refl)
    ∙ single_row_items (whole a.shape) (whole b.shape) (scalar_size a.shape) (scalar_size b.shape) a.items b.items both e (f ∙ sym (mul-one (size_of a.shape))) (g ∙ sym (mul-one (size_of b.shape)))

-- operands of at most one axis, whose elements follow one another
joined_in_vector : (a b : Arr) → length a.shape ≤ 1 → length b.shape ≤ 1 → length (cells_of a.items) ≡ size_of a.shape → length (cells_of b.items) ≡ size_of b.shape → joined_on 0 a b ≡ joined_vectors a b
joined_in_vector a b h g f k =
    ap (λ (s : List ℕ). with_lengths s (beside 0 b.shape a.shape)) (vector_beside a.shape b.shape h g)
    ∙ ap (with_lengths (size_of a.shape ∷ [])) (vector_beside b.shape a.shape g h)
    ∙ each (of_one_type a.items b.items) refl
  where
    with_lengths : List ℕ → List ℕ → Result Arr Fault
    with_lengths s t =
        and_then (demand (length s == length t) Rank) (λ ok.
        and_then (demand (same (without 0 s) (without 0 t)) Length) (λ ok.
        joined_of 0 s t a b))

    in_limits : (p q : List ℕ → Arr) (s t : List ℕ) → s ≡ t → p s ≡ q s → ok_map p (limited s) ≡ ok_map q (limited t)
    in_limits p q s t e f = at (is_limited s) ∙ ap (λ (u : List ℕ). ok_map q (limited u)) e
      where
        at : (b : Bool) → ok_map p (ok_map (λ ok. s) (demand b Limit)) ≡ ok_map q (ok_map (λ ok. s) (demand b Limit))
        at true = ap (λ (x : Arr). Ok x) f
        at false = refl

    all : List ℕ
    all = (size_of a.shape + size_of b.shape) ∷ []

    counted : all ≡ (count_of a + count_of b) ∷ []
    counted = ap (λ (n : ℕ). n ∷ []) (sum (size_of a.shape) (size_of b.shape) (count_of a) (count_of b) f k)
      where
        sum : (m n p q : ℕ) → p ≡ m → q ≡ n → m + n ≡ p + q
        sum m n p q e g = omega arith

    each : (r : Result Both Fault) → of_one_type a.items b.items ≡ r →
        and_then r (λ both. ok_map (joined_array 0 (size_of a.shape ∷ []) (size_of b.shape ∷ []) a b both) (limited all))
        ≡ and_then r (λ both. ok_map (λ shape. record { shape = shape; items = appended both }) (limited ((count_of a + count_of b) ∷ [])))
    each (Err fault) e = refl
    each (Ok both) e =
        in_limits (joined_array 0 (size_of a.shape ∷ []) (size_of b.shape ∷ []) a b both) (λ shape. record { shape = shape; items = appended both }) all ((count_of a + count_of b) ∷ []) counted
        (ap (λ (i : Items). record { shape = all; items = i }) (one_axis_items a b both e f k))

-- there is one axis alone
pub in_vector : (a b : Arr) (axis : ℕ) → axis < max (max (length a.shape) (length b.shape)) 1 → length a.shape ≤ 1 → length b.shape ≤ 1 → length (cells_of a.items) ≡ size_of a.shape → length (cells_of b.items) ≡ size_of b.shape →
    joined_on axis a b ≡ joined_vectors a b
in_vector a b axis l h g f k = ap (λ (n : ℕ). joined_on n a b) (only axis (length a.shape) (length b.shape) l h g) ∙ joined_in_vector a b h g f k
  where
    only : (k m n : ℕ) → k < max (max m n) 1 → m ≤ 1 → n ≤ 1 → k ≡ 0
    only k m n l h g = omega arith
