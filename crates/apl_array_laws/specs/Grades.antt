-- Grades: the places of items in the order of the items.
use Rattle.std.specs.Prelude.{◌≡◌, ◌+◌, ◌<◌, ◌<ℤ◌, ◌⊎◌, ◌↔◌, ℕ, ℤ, pos, List, length, map, slice_index_or, AllPairs, Ok}
use Rattle.std.specs.List.{range_with_len}
use Rattle.std.specs.List.Sorted.{IsPermutation}
use Rattle.apl_arrays.specs.Cells.{Arr, Numbers}
use Rattle.apl_arrays.specs.Checks.{numbers_of}
use Rattle.apl_search.specs.Ordered.{falling, graded, rising}

-- the item at a place, from 0
abbrev pub item : List ℤ → ℕ → ℤ
item items place = slice_index_or items place (pos 0)

-- the lesser item comes before the other
abbrev pub Rises : ℤ → ℤ → Type 0
Rises x y = x <ℤ y

-- the greater one does
abbrev pub Falls : ℤ → ℤ → Type 0
Falls x y = y <ℤ x

-- a place comes before another where its item does, or where their items are equal and it is the lower place
abbrev pub Precedes : (ℤ → ℤ → Type 0) → List ℤ → ℕ → ℕ → Type 0
Precedes Before items p q = Before (item items p) (item items q) ⊎ ((item items p ≡ item items q) × (p < q))

-- the places of all items, each once, sorted by item and then by place
pub record IsGrade (Before : ℤ → ℤ → Type 0) (items : List ℤ) (places : List ℕ) : Type 0 where
  pub all : IsPermutation (range_with_len 0 (length items)) places
  pub order : AllPairs (Precedes Before items) places

-- an array of these places, counted from the index origin, for the items of a vector of numbers
pub record IsGradeOf (Before : ℤ → ℤ → Type 0) (b : Arr) (origin : ℕ) (c : Arr) : Type 0 where
  pub vector : length b.shape ≡ 1
  pub items : List ℤ
  pub items_are : numbers_of b.items ≡ Ok items
  pub places : List ℕ
  pub grade : IsGrade Before items places
  pub shape_is : c.shape ≡ b.shape
  pub places_are : c.items ≡ Numbers (map (λ p. pos (origin + p)) places)

-- ---- what is promised

-- grading up gives an array just where it is that of the places by rising items
abbrev pub GradesUp : Type 0
GradesUp = (b c : Arr) (origin : ℕ) → (graded rising b origin ≡ Ok c) ↔ IsGradeOf Rises b origin c

-- grading down, by falling items
abbrev pub GradesDown : Type 0
GradesDown = (b c : Arr) (origin : ℕ) → (graded falling b origin ≡ Ok c) ↔ IsGradeOf Falls b origin c

-- items have one grade
abbrev pub HaveOneGrade : (ℤ → ℤ → Type 0) → Type 0
HaveOneGrade Before = (items : List ℤ) (some others : List ℕ) → IsGrade Before items some → IsGrade Before items others → some ≡ others
