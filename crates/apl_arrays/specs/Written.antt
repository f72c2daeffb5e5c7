-- Elements at places of which others were written.
use Rattle.std.specs.Prelude.{ℕ, ℤ, pos, zero, suc, ◌==◌, ◌<◌, cond, List, length, slice_index_or, slice_set}
use Rattle.apl_arrays.specs.Cells.{Arr, Items, Numbers, Characters}

-- a number at a place, where there are numbers
abbrev pub with_number : Items → ℕ → ℤ → Items
with_number (Numbers zs) place z = Numbers (slice_set zs place z)
with_number (Characters cs) place z = Characters cs

-- the array with a number as its element at a place
abbrev pub number_written : Arr → ℕ → ℤ → Arr
number_written a place z = record { shape = a.shape; items = with_number a.items place z }

-- which of n items serves at the k-th place: a single one at each
abbrev pub serving : ℕ → ℕ → ℕ
serving n k = cond (n == 1) 0 k

-- n items serve at so many places
abbrev pub AreEnough : ℕ → ℕ → Type 0
AreEnough n count = (k : ℕ) → k < count → serving n k < n

-- xs with ys at the first so many of these places, one after another
abbrev pub with_items : {A : Type 0} → A → List A → List ℕ → List A → ℕ → List A
with_items d xs places ys zero = xs
with_items d xs places ys (suc k) = slice_set (with_items d xs places ys k) (slice_index_or places k 0) (slice_index_or ys (serving (length ys) k) d)

-- the same at all places, of elements of one type; of another type none is written
abbrev pub with_elements : Items → List ℕ → Items → Items
with_elements (Numbers xs) places (Numbers ys) = Numbers (with_items (pos 0) xs places ys (length places))
with_elements (Numbers xs) places (Characters ys) = Numbers xs
with_elements (Characters xs) places (Numbers ys) = Characters xs
with_elements (Characters xs) places (Characters ys) = Characters (with_items 0 xs places ys (length places))

-- the array with elements at places
abbrev pub elements_written : Arr → List ℕ → Items → Arr
elements_written a places items = record { shape = a.shape; items = with_elements a.items places items }
