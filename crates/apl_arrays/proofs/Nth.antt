-- The index list that comes after so many others.
use Rattle.std.proofs.Common.{◌≡◌, ℕ, zero, suc, ◌+◌, ◌*◌, ◌/◌, ◌%◌, ◌<◌, ◌≤◌, true, List, [], ◌∷◌, length, get_or, drop, refl, ap, sym, ◌∙◌, arith, Some, None}
use Rattle.std.specs.Prelude.{slice_get}
use Rattle.std.proofs.Math.Nat.{div-lt_iff_lt-mul, mod-lt, div-add-mod, mul-div_cancel_left}
use Rattle.std.proofs.lemmas.List.{drop-map}
use Rattle.std.proofs.lemmas.Option.{slice_get_past, slice_get_within}
use Rattle.apl_arrays.specs.declared.axis.Axis.{Axis}
use Rattle.apl_arrays.specs.declared.cell.Cell.{Cell}
use Rattle.apl_arrays.specs.declared.cell.Cell.TheVariants.{Num, Char}
use Rattle.apl_arrays.proofs.Places.{small_size}
use Rattle.apl_arrays.specs.Index.{size_of, is_within, position_in}
use Rattle.apl_arrays.specs.Cells.{Items, Numbers, Characters, cells_of}
use Rattle.apl_arrays.specs.Nth.{index_at, without}
use Rattle.apl_arrays.specs.Strides.{lengths, step_at, place_at, seen, IsView}
use Rattle.apl_arrays.proofs.Order.{within_cons}
use Rattle.apl_arrays.proofs.Steps.{rest_at, no_axis}
use Rattle.apl_arrays.proofs.Formed.{seen_at, seen_full}

-- a product with something below it has no zero
pub size_pos : (n s p : ℕ) → p < n * s → 0 < s
size_pos n zero p h = absurd (omega arith)
size_pos n (suc s) p h = omega arith

pub length_pos : (n s p : ℕ) → p < n * s → 0 < n
length_pos zero s p h = absurd (omega arith)
length_pos (suc n) s p h = omega arith

pub row_below : (n s p : ℕ) → p < n * s → p / s < n
row_below n s p h = (div-lt_iff_lt-mul {k = s} {x = p} {y = n} (size_pos n s p h)).1 h

pub rest_below : (n s p : ℕ) → p < n * s → p % s < s
rest_below n s p h = mod-lt p (size_pos n s p h)

pub within_nth : (s : List ℕ) (p : ℕ) → p < size_of s → is_within s (index_at s p) ≡ true
within_nth [] p h = refl
within_nth (n ∷ ns) p h = within_cons n (p / size_of ns) ns (index_at ns (p % size_of ns)) (row_below n (size_of ns) p h) (within_nth ns (p % size_of ns) (rest_below n (size_of ns) p h))

pub position_nth : (s : List ℕ) (p : ℕ) → p < size_of s → position_in s (index_at s p) ≡ p
position_nth [] p h = omega arith
position_nth (n ∷ ns) p h = ap (λ q. p / size_of ns * size_of ns + q) (position_nth ns (p % size_of ns) (rest_below n (size_of ns) p h)) ∙ parts p (size_of ns)
  where
    parts : (p s : ℕ) → p / s * s + p % s ≡ p
    parts p s = omega (arith, div-add-mod p s)

-- one axis more
pub size_at : (xs : List Axis) (k : ℕ) → k < length xs → size_of (lengths (drop k xs)) ≡ (get_or xs k no_axis).length * size_of (lengths (drop (k + 1) xs))
size_at xs k h = ap (λ ys. size_of (lengths ys)) (rest_at xs k h)

pub size_next : (xs : List Axis) (k size rest : ℕ) → k < length xs → size ≡ size_of (lengths (drop k xs)) → rest < size → size / (get_or xs k no_axis).length ≡ size_of (lengths (drop (k + 1) xs))
size_next xs k size rest h e l =
    ap (λ z. z / (get_or xs k no_axis).length) (e ∙ size_at xs k h)
    ∙ turn (get_or xs k no_axis).length (size_of (lengths (drop (k + 1) xs))) (length_pos (get_or xs k no_axis).length (size_of (lengths (drop (k + 1) xs))) rest (omega (arith, size_at xs k h)))
  where
    turn : (n s : ℕ) → 0 < n → n * s / n ≡ s
    turn n s h = mul-div_cancel_left s h

pub nth_next : (xs : List Axis) (k p rest : ℕ) → k < length xs →
    place_at p (drop k xs) (index_at (lengths (drop k xs)) rest)
    ≡ place_at (p + step_at (get_or xs k no_axis) (rest / size_of (lengths (drop (k + 1) xs)))) (drop (k + 1) xs) (index_at (lengths (drop (k + 1) xs)) (rest % size_of (lengths (drop (k + 1) xs))))
nth_next xs k p rest h = ap (λ ys. place_at p ys (index_at (lengths ys) rest)) (rest_at xs k h)

-- the element there
pub nth_seen : (items : Items) (p : ℕ) (xs : List Axis) (nth : ℕ) → IsView items p xs → nth < size_of (lengths xs) → slice_get (cells_of (seen items p xs)) nth ≡ slice_get (cells_of items) (place_at p xs (index_at (lengths xs) nth))
nth_seen items p xs nth v h =
    ap (slice_get (cells_of (seen items p xs))) (sym (position_nth (lengths xs) nth h)) ∙ seen_at items p xs (index_at (lengths xs) nth) v.placed (within_nth (lengths xs) nth h)

pub drop_first : {A : Type 0} (xs : List A) (k : ℕ) (x : A) → slice_get xs k ≡ Some x → drop k xs ≡ x ∷ drop (k + 1) xs
drop_first [] k x e = absurd (cc)
drop_first (y ∷ ys) zero x e = let s : y ≡ x = cc in ap (λ z. z ∷ ys) s
drop_first (y ∷ ys) (suc k) x e = drop_first ys k x e ∙ ap (λ j. x ∷ drop j (y ∷ ys)) (turn k)
  where
    turn : (k : ℕ) → suc (k + 1) ≡ suc k + 1
    turn k = omega arith

pub drop_last : {A : Type 0} (xs : List A) (k : ℕ) → slice_get xs k ≡ None → drop k xs ≡ []
drop_last [] zero e = refl
drop_last [] (suc k) e = refl
drop_last (y ∷ ys) zero e = absurd (cc)
drop_last (y ∷ ys) (suc k) e = drop_last ys k e

pub cells_without : (nth : ℕ) (items : Items) → cells_of (without nth items) ≡ drop nth (cells_of items)
cells_without nth (Numbers zs) = sym (drop-map Num nth zs)
cells_without nth (Characters cs) = sym (drop-map Char nth cs)

pub next_left : (items : Items) (nth : ℕ) (x : Cell) → slice_get (cells_of items) nth ≡ Some x → cells_of (without nth items) ≡ x ∷ cells_of (without (nth + 1) items)
next_left items nth x e = cells_without nth items ∙ drop_first (cells_of items) nth x e ∙ ap (λ xs. x ∷ xs) (sym (cells_without (nth + 1) items))

pub none_left : (items : Items) (nth : ℕ) → slice_get (cells_of items) nth ≡ None → cells_of (without nth items) ≡ []
none_left items nth e = cells_without nth items ∙ drop_last (cells_of items) nth e

-- beyond the last element there is none
pub none_beyond : (items : Items) (p : ℕ) (xs : List Axis) (count nth : ℕ) → count ≡ size_of (lengths xs) → count ≤ nth → slice_get (cells_of (seen items p xs)) nth ≡ None
none_beyond items p xs count nth e h = slice_get_past (cells_of (seen items p xs)) nth (omega (arith, seen_full items p xs))

-- there are few elements
pub nth_small : (items : Items) (p : ℕ) (xs : List Axis) (nth : ℕ) (x : Cell) → IsView items p xs → slice_get (cells_of (seen items p xs)) nth ≡ Some x → nth < 1000000
nth_small items p xs nth x v e = omega (arith, slice_get_within (cells_of (seen items p xs)) nth x e, small_size (length (cells_of (seen items p xs))) (lengths xs) (seen_full items p xs) v.small)
