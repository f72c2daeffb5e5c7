-- Arrays that show elements of another: at each index list, the other's element at an index list that is made of it.
use Rattle.std.specs.Prelude.{◌≡◌, ℕ, true, pos, zero, suc, ◌+◌, ◌-◌, ◌==◌, cond, List, [], ◌∷◌, map, min, max, slice_index_or}
use Rattle.std.specs.List.{range_with_len}
use Rattle.apl_arrays.specs.Index.{indices, is_within, position_in}
use Rattle.apl_arrays.specs.Cells.{Arr, Items, Numbers, Characters, cell_at}

-- the items at the places of these indices, where d stands for one beyond the list
abbrev pub all_at : {A I : Type 0} → List A → (I → ℕ) → List I → A → List A
all_at xs place is d = map (λ i. slice_index_or xs (place i) d) is

-- the elements at these places, one for each index list
abbrev pub picked : Items → (List ℕ → ℕ) → List (List ℕ) → Items
picked (Numbers zs) place is = Numbers (map (λ i. slice_index_or zs (place i) (pos 0)) is)
picked (Characters cs) place is = Characters (map (λ i. slice_index_or cs (place i) 0) is)

-- the array of this shape whose element at i is a's at g(i)
abbrev pub selected : Arr → List ℕ → (List ℕ → List ℕ) → Arr
selected a shape g = record { shape = shape; items = picked a.items (λ i. position_in a.shape (g i)) (indices shape) }

-- at each index list within the view it has the array's element at the index list that g makes of it
abbrev pub ShowsBy : Arr → Arr → (List ℕ → List ℕ) → Type 0
ShowsBy view array g = (i : List ℕ) → is_within view.shape i ≡ true → cell_at view i ≡ cell_at array (g i)

-- a list with f of its item for this axis
abbrev pub on_axis : ℕ → (ℕ → ℕ) → List ℕ → List ℕ
on_axis axis f [] = []
on_axis zero f (n ∷ ns) = f n ∷ ns
on_axis (suc axis) f (n ∷ ns) = n ∷ on_axis axis f ns

-- the length of an axis
abbrev pub length_of : Arr → ℕ → ℕ
length_of a axis = slice_index_or a.shape axis 0

-- an axis taken the other way
abbrev pub reversed : ℕ → Arr → Arr
reversed axis a = selected a a.shape (on_axis axis (λ i. length_of a axis - 1 - i))

-- len elements along an axis, beginning with the element from
abbrev pub cut : ℕ → ℕ → ℕ → Arr → Arr
cut axis from len a = selected a (on_axis axis (λ n. len) a.shape) (on_axis axis (λ i. i + from))

-- one more than the greatest of these axes
abbrev pub rank_of : List ℕ → ℕ
rank_of [] = 0
rank_of (m ∷ ms) = max (m + 1) (rank_of ms)

-- the lengths that become axis k
abbrev pub joined : ℕ → List ℕ → List ℕ → List ℕ
joined k [] ns = []
joined k (m ∷ ms) [] = []
joined k (m ∷ ms) (n ∷ ns) = cond (m == k) (n ∷ joined k ms ns) (joined k ms ns)

abbrev pub least : List ℕ → ℕ
least [] = 0
least (n ∷ []) = n
least (n ∷ m ∷ ns) = min n (least (m ∷ ns))

-- the shape where axis m of this one becomes axis axes[m], as long as the least that is joined there
abbrev pub turned_shape : List ℕ → List ℕ → List ℕ
turned_shape axes shape = map (λ k. least (joined k axes shape)) (range_with_len 0 (rank_of axes))

-- axis m becomes axis axes[m]: the element at i is that whose m-th index is i[axes[m]]
abbrev pub turned : List ℕ → Arr → Arr
turned axes a = selected a (turned_shape axes a.shape) (λ i. map (λ m. slice_index_or i m 0) axes)
