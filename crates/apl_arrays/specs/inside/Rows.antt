-- Rows of elements, in the order in which they are appended.
use Rattle.std.specs.Prelude.{◌≡◌, ℕ, ◌+◌, ◌-◌, List, ◌∷◌, ◌++◌, map}
use Rattle.std.specs.List.{flat_map, range_with_len}
use Rattle.apl_arrays.specs.declared.axis.Axis.{Axis}
use Rattle.apl_arrays.specs.Index.{indices}
use Rattle.apl_arrays.specs.Strides.{lengths, place_at, step_at}
use Rattle.apl_arrays.specs.Views.{all_at}

-- the index lists whose first index is i or more
abbrev pub rows_from : List ℕ → ℕ → ℕ → List (List ℕ)
rows_from ns i n = flat_map (λ i. map (λ is. i ∷ is) (indices ns)) (range_with_len i (n - i))

-- the items along an axis from the place p on
abbrev pub line_from : {A : Type 0} → List A → Axis → ℕ → A → List A
line_from xs a p d = all_at xs (λ k. p + step_at a k) (range_with_len 0 a.length) d

-- the same from four places, of which each is one further on
abbrev pub four_from : {A : Type 0} → List A → Axis → ℕ → A → List A
four_from xs a p d = line_from xs a p d ++ (line_from xs a (p + 1) d ++ (line_from xs a (p + 2) d ++ line_from xs a (p + 3) d))

-- the new items with the rows from n on are the old items with all rows
abbrev pub AreRowsTo : {A : Type 0} → List A → ℕ → Axis → List Axis → ℕ → List A → List A → Type 0
AreRowsTo {A = A} xs p a axes n old new =
    (d : A) → new ++ all_at xs (place_at p (a ∷ axes)) (rows_from (lengths axes) n a.length) d ≡ old ++ all_at xs (place_at p (a ∷ axes)) (indices (lengths (a ∷ axes))) d
