-- Axes that are those of a whole array.
use Rattle.std.proofs.Common.{◌≡◌, ℕ, ◌+◌, ◌*◌, ◌≤◌, List, ◌∷◌, length, get_or, drop, ap, sym, ◌∙◌, arith}
use Rattle.apl_arrays.specs.declared.axis.Axis.{Axis}
use Rattle.apl_arrays.specs.Cells.{Items, cells_of}
use Rattle.apl_arrays.specs.Index.{size_of, bound_of}
use Rattle.apl_arrays.specs.Strides.{lengths, seen, whole_axes}
use Rattle.apl_arrays.proofs.Places.{size_le_bound}
use Rattle.apl_arrays.proofs.Steps.{no_axis, rest_at, drop-lengths}
use Rattle.apl_arrays.proofs.Whole.{bound-drop, seen-whole}

-- the axes from one on are those of a whole array, which has so many elements
pub record WholeFrom (xs : List Axis) (k count : ℕ) : Type 0 where
  pub whole : drop k xs ≡ whole_axes (lengths (drop k xs))
  pub size : count ≡ size_of (lengths (drop k xs))

same_axis : (a : Axis) (u : ℕ) → a.up ≡ u → a.down ≡ 0 → a ≡ record { length = a.length; up = u; down = 0 }
same_axis a u e d = ap (λ (w : ℕ). record { length = a.length; up = w; down = a.down }) e ∙ ap (λ (w : ℕ). record { length = a.length; up = u; down = w }) d

-- one axis more
pub whole_more : (xs : List Axis) (j k size : ℕ) → j + 1 ≡ k → k ≤ length xs → WholeFrom xs k size → (get_or xs j no_axis).up ≡ size → (get_or xs j no_axis).down ≡ 0 →
    WholeFrom xs j (size * (get_or xs j no_axis).length)
whole_more xs j k size e h w u d = record {
  whole =
      rest_at xs j (omega arith)
      ∙ ap (λ (m : ℕ). get_or xs j no_axis ∷ drop m xs) e
      ∙ ap (λ (a : Axis). a ∷ drop k xs) (same_axis (get_or xs j no_axis) (size_of (lengths (drop k xs))) (u ∙ w.size) d)
      ∙ ap (λ (l : List Axis). record { length = (get_or xs j no_axis).length; up = size_of (lengths (drop k xs)); down = 0 } ∷ l) w.whole
      ∙ sym (ap (λ (l : List Axis). whole_axes (lengths l)) (rest_at xs j (omega arith) ∙ ap (λ (m : ℕ). get_or xs j no_axis ∷ drop m xs) e));
  size =
      ap (λ (n : ℕ). n * (get_or xs j no_axis).length) w.size
      ∙ turn (size_of (lengths (drop k xs))) (get_or xs j no_axis).length
      ∙ sym (ap (λ (l : List Axis). size_of (lengths l)) (rest_at xs j (omega arith) ∙ ap (λ (m : ℕ). get_or xs j no_axis ∷ drop m xs) e));
}
  where
    turn : (a b : ℕ) → a * b ≡ b * a
    turn a b = omega arith

-- so many elements are within the limits
pub whole_small : (xs : List Axis) (k size : ℕ) → bound_of (lengths xs) ≤ 1000000 → WholeFrom xs k size → size ≤ 1000000
whole_small xs k size h w =
    omega (arith, w.size, size_le_bound (lengths (drop k xs)), bound-drop (lengths xs) k 1000000 h, ap bound_of (drop-lengths xs k))

-- a whole array shows its elements
pub all_shown : (items : Items) (p : ℕ) (xs : List Axis) → p ≡ 0 → xs ≡ whole_axes (lengths xs) → length (cells_of items) ≡ size_of (lengths xs) → seen items p xs ≡ items
all_shown items p xs e w h = ap (λ (q : ℕ). seen items q xs) e ∙ ap (seen items 0) w ∙ seen-whole items (lengths xs) h
