-- The index lists of a shape.
use Rattle.std.specs.Prelude.{◌≡◌, ◌≢◌, ◌<◌, ◌⊎◌, ◌↔◌, ℕ, true, List, [], ◌∷◌, AllPairs, Contains}
use Rattle.std.specs.List.{AllZip}
use Rattle.apl_arrays.specs.Index.{indices, is_within}

-- an index list lies within a shape: it has an index for each axis, below the axis's length
abbrev pub LiesWithin : List ℕ → List ℕ → Type 0
LiesWithin shape index = AllZip (λ i n. i < n) index shape

-- Of two index lists of one length one comes before the other: where they differ first it has the lower index.
abbrev pub ComesBefore : List ℕ → List ℕ → Type 0
ComesBefore [] js = ⊥
ComesBefore (i ∷ is) [] = ⊥
ComesBefore (i ∷ is) (j ∷ js) = (i < j) ⊎ ((i ≡ j) × ComesBefore is js)

-- exactly those that lie within the shape, in lexicographic order
pub record AreIndexLists (shape : List ℕ) (lists : List (List ℕ)) : Type 0 where
  pub exact : (index : List ℕ) → Contains lists index ↔ LiesWithin shape index
  pub order : AllPairs ComesBefore lists

-- ---- what is promised

-- the test is that
abbrev pub TestsWithin : Type 0
TestsWithin = (shape index : List ℕ) → (is_within shape index ≡ true) ↔ LiesWithin shape index

-- a shape has its index lists
abbrev pub HasIndexLists : Type 0
HasIndexLists = (shape : List ℕ) → AreIndexLists shape (indices shape)

-- each once
abbrev pub StandOnce : Type 0
StandOnce = (shape : List ℕ) → AllPairs (λ i j. i ≢ j) (indices shape)

-- there is one list of them
abbrev pub OneOrder : Type 0
OneOrder = (shape : List ℕ) (lists : List (List ℕ)) → AreIndexLists shape lists → lists ≡ indices shape
