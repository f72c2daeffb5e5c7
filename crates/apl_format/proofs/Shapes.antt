-- An array's lines by its last two axes.
use Rattle.std.proofs.Common.{◌≡◌, ℕ, ◌*◌, ◌≤◌, List, [], ◌∷◌, ◌++◌, length, refl, ap, sym, ◌∙◌, arith, mul_assoc, mul-one, one-mul}
use Rattle.std.proofs.lemmas.List.{length-append}
use Rattle.apl_arrays.specs.Index.{size_of}
use Rattle.apl_arrays.specs.Cells.{Arr, Items}
use Rattle.apl_format.specs.Display.{display, lines_of, matrix_lines, vector_line}

pub lines_step : (count n : ℕ) (s : List ℕ) (items : Items) → 2 ≤ length s → lines_of count (n ∷ s) items ≡ lines_of (count * n) s items
unfolding lines_of
lines_step count n [] items h = absurd (omega arith)
lines_step count n (c ∷ []) items h = absurd (omega arith)
lines_step count n (h ∷ c ∷ s) items l = refl

lines_of_planes : (count : ℕ) (s : List ℕ) (h c : ℕ) (items : Items) → lines_of count (s ++ h ∷ c ∷ []) items ≡ matrix_lines (count * size_of s) h c items
unfolding lines_of
lines_of_planes count [] h c items = ap (λ n. matrix_lines n h c items) (sym (mul-one count))
lines_of_planes count (n ∷ s) h c items =
    lines_step count n (s ++ h ∷ c ∷ []) items (rw length-append (omega arith)) ∙ lines_of_planes (count * n) s h c items ∙ ap (λ m. matrix_lines m h c items) (mul_assoc count n (size_of s))

pub display_planes : (a : Arr) (s : List ℕ) (h c : ℕ) → a.shape ≡ s ++ h ∷ c ∷ [] → display a ≡ matrix_lines (size_of s) h c a.items
unfolding display
display_planes a s h c e = ap (λ t. lines_of 1 t a.items) e ∙ lines_of_planes 1 s h c a.items ∙ ap (λ m. matrix_lines m h c a.items) (one-mul (size_of s))

pub display_scalar : (a : Arr) → a.shape ≡ [] → display a ≡ vector_line a.items ∷ []
unfolding display lines_of
display_scalar a e = ap (λ t. lines_of 1 t a.items) e

pub display_vector : (a : Arr) (n : ℕ) → a.shape ≡ n ∷ [] → display a ≡ vector_line a.items ∷ []
unfolding display lines_of
display_vector a n e = ap (λ t. lines_of 1 t a.items) e
