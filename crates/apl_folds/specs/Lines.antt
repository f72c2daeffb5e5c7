-- Lines of items in a ravel, and the folds of their first items.
use Rattle.std.specs.Prelude.{ℕ, ℤ, pos, ◌+◌, ◌-◌, ◌*◌, ◌^◌, ◌<◌, ◌≤◌, ◌≡◌, Bool, true, false, nat_eq}
use Rattle.std.specs.Prelude.{List, [], ◌∷◌, map, length, drop, slice_index_or, Option, None, Some, IfSome, Result, Ok, Err}
use Rattle.std.specs.List.{range_with_len}
use Rattle.apl_faults.specs.declared.fault.Fault.{Fault}
use Rattle.apl_faults.specs.declared.fault.Fault.TheVariants.{Domain}
use Rattle.apl_arrays.specs.declared.axis.Axis.{Axis}
use Rattle.apl_arrays.specs.Axes.{without}
use Rattle.apl_arrays.specs.Index.{indices, is_within}
use Rattle.apl_arrays.specs.Results.{and_then, all_ok}
use Rattle.apl_arrays.specs.Strides.{lengths, seen, step_at, place_at, reach_of}
use Rattle.apl_arrays.specs.declared.strided.Strided.{Strided}
use Rattle.apl_arrays.specs.Cells.{Arr}
use Rattle.apl_arrays.specs.Left.{listed}
use Rattle.apl_scalar.specs.declared.function.Dyadic.{Dyadic}
use Rattle.apl_scalar.specs.Extension.{compared}
use Rattle.apl_folds.specs.declared.lines.Lines.{Lines}
use Rattle.apl_folds.specs.declared.walk.Start.{Start}

-- of one number the number, of more the function of the first and the fold of the others; it is asked of no empty list
abbrev pub fold_by : (ℤ → ℤ → Result ℤ Fault) → List ℤ → Result ℤ Fault
fold_by f [] = Err Domain
fold_by f (x ∷ []) = Ok x
fold_by f (x ∷ y ∷ ys) = and_then (fold_by f (y ∷ ys)) (λ z. f x z)

-- the first so many items along an axis from a place on
abbrev pub line_of : {A : Type 0} → A → List A → Axis → ℕ → ℕ → List A
line_of none raw axis p count = map (λ k. slice_index_or raw (p + step_at axis k) none) (range_with_len 0 count)

-- the fold of the first so many numbers along an axis from a place on
abbrev pub line_fold : (ℤ → ℤ → Result ℤ Fault) → List ℤ → Axis → ℕ → ℕ → Result ℤ Fault
line_fold f raw axis p count = fold_by f (line_of (pos 0) raw axis p count)

-- the folds of the lines of so many numbers that begin from one place to another, side by side
abbrev pub folds_beside : (ℤ → ℤ → Result ℤ Fault) → List ℤ → Axis → ℕ → ℕ → ℕ → Result (List ℤ) Fault
folds_beside f raw axis count from till = all_ok (λ p. line_fold f raw axis p count) (range_with_len from (till - from))

-- each number of a row is taken into the fold beside it, where there is room for it
abbrev pub AreTaken : (ℤ → ℤ → Result ℤ Fault) → (List ℤ → Type 0) → List ℤ → List ℤ → List ℤ → Type 0
AreTaken f room row old new =
    (j : ℕ) → j < length old → (rest : List ℤ) → room (slice_index_or row j (pos 0) ∷ rest) → fold_by f rest ≡ Ok (slice_index_or old j (pos 0)) →
    fold_by f (slice_index_or row j (pos 0) ∷ rest) ≡ Ok (slice_index_or new j (pos 0))

-- the numbers of four rows are taken into the fold beside them
abbrev pub AreFourTaken : (ℤ → ℤ → Result ℤ Fault) → (List ℤ → Type 0) → List ℤ → List ℤ → List ℤ → List ℤ → List ℤ → List ℤ → Type 0
AreFourTaken f room first second third fourth old new =
    (j : ℕ) → j < length old → (rest : List ℤ) →
    room (slice_index_or first j (pos 0) ∷ slice_index_or second j (pos 0) ∷ slice_index_or third j (pos 0) ∷ slice_index_or fourth j (pos 0) ∷ rest) → fold_by f rest ≡ Ok (slice_index_or old j (pos 0)) →
    fold_by f (slice_index_or first j (pos 0) ∷ slice_index_or second j (pos 0) ∷ slice_index_or third j (pos 0) ∷ slice_index_or fourth j (pos 0) ∷ rest) ≡ Ok (slice_index_or new j (pos 0))

-- each of these numbers is the fold of what one of the lines that begin side by side from a place on has from an index on
abbrev pub AreFoldsFrom : (ℤ → ℤ → Result ℤ Fault) → List ℤ → Axis → ℕ → ℕ → ℕ → List ℤ → Type 0
AreFoldsFrom f raw axis at count index folds = (j : ℕ) → j < length folds → fold_by f (drop index (line_of (pos 0) raw axis (at + j) count)) ≡ Ok (slice_index_or folds j (pos 0))

-- each of these numbers is the fold of one of the lines that begin from a place on, side by side
abbrev pub AreFolds : (ℤ → ℤ → Result ℤ Fault) → List ℤ → Axis → ℕ → ℕ → List ℤ → Type 0
AreFolds f raw axis at count folds = (j : ℕ) → j < length folds → line_fold f raw axis (at + j) count ≡ Ok (slice_index_or folds j (pos 0))

-- a line from a place on lies within so many items, and its first items are asked for
pub record IsLine (size : ℕ) (axis : Axis) (p count : ℕ) : Type 0 where
  pub some : 0 < count
  pub within : count ≤ axis.length
  pub near : p + (axis.up + axis.down) * axis.length < 2 ^ 63
  pub placed : (k : ℕ) → k < axis.length → p + step_at axis k < size

-- where the line of an index list begins: the index on the axis at a depth, if any, moves along the line
abbrev pub start_at : ℕ → Option ℕ → List Axis → List ℕ → ℕ
start_at p None axes is = place_at p axes is
start_at p (Some depth) axes is = place_at p (without depth axes) (without depth is)

-- how many of its items are asked for: those up to that index
abbrev pub count_at : ℕ → Option ℕ → List ℕ → ℕ
count_at count None is = count
count_at count (Some depth) is = slice_index_or is depth 0 + 1

-- this holds of the line of each index list
abbrev pub OfEach : (ℕ → ℕ → Type 0) → Start → List Axis → Type 0
OfEach P start axes =
    (is : List ℕ) → is_within (lengths axes) is ≡ true → P (start_at start.at start.depth axes is) (count_at start.count start.depth is)

-- of two characters whether they are the same; what more of them is compared with is a number
abbrev pub agree : List ℕ → Bool
agree [] = false
agree (c ∷ []) = false
agree (c ∷ d ∷ []) = nat_eq c d
agree (c ∷ d ∷ e ∷ es) = false

-- what is made of the line of each index list, or the first fault in their order
abbrev pub made : (ℕ → ℕ → Result ℤ Fault) → ℕ → ℕ → Option ℕ → List Axis → Result (List ℤ) Fault
made make p count depth axes = all_ok (λ is. make (start_at p depth axes is) (count_at count depth is)) (indices (lengths axes))

-- the lines of all index lists lie within so many items
pub record AreLines (size : ℕ) (lines : Lines) : Type 0 where
  pub depth : IfSome lines.start.depth (λ depth. depth < length lines.axes.now)
  pub near : reach_of lines.start.at lines.axes.now < 2 ^ 63
  pub each : OfEach (IsLine size lines.inner) lines.start lines.axes.now

-- the same for lines
abbrev pub made_of : (ℕ → ℕ → Result ℤ Fault) → Lines → Result (List ℤ) Fault
made_of make lines = made make lines.start.at lines.start.count lines.start.depth lines.axes.now

-- the folds of the numbers of each line
abbrev pub line_folds : (ℤ → ℤ → Result ℤ Fault) → List ℤ → Lines → Result (List ℤ) Fault
line_folds f raw lines = made_of (line_fold f raw lines.inner) lines

-- the folds of the characters of each line, which are two or more
abbrev pub line_comparisons : Dyadic → List ℕ → Lines → Result (List ℤ) Fault
line_comparisons f raw lines = made_of (λ p count. compared f (agree (line_of 0 raw lines.inner p count))) lines

-- the array that steps show
abbrev pub shown_by : Strided → Arr
shown_by s = record { shape = lengths s.axes.now; items = seen (listed s.items) s.offset s.axes.now }
