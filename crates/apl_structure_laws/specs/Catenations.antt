-- Taking, dropping and catenating.
use Rattle.std.specs.Prelude.{◌≡◌, ◌≤◌, ℕ, pos, List, map, length, Some, Ok}
use Rattle.apl_arrays.specs.declared.axis_choice.Along.{Along}
use Rattle.apl_arrays.specs.Along.{axis_along}
use Rattle.apl_arrays.specs.Cells.{Arr, IsArray}
use Rattle.apl_arrays.specs.Kinds.{are_numbers}
use Rattle.apl_arrays.specs.Results.{and_then}
use Rattle.apl_arrays.specs.Views.{length_of, on_axis}
use Rattle.apl_reshape.specs.Catenate.{catenated}
use Rattle.apl_reshape.specs.Take.{dropped, named_counts, taken}

-- K holds these counts, one for each axis of a shape
abbrev pub Counts : List ℕ → List ℕ → Arr → Type 0
Counts counts shape k = named_counts k shape ≡ Ok (map pos counts)

-- n along an axis, and along each other one its length
abbrev pub with_length : ℕ → ℕ → List ℕ → List ℕ
with_length axis n shape = on_axis axis (λ m. n) shape

-- n along an axis, and along each other one none
abbrev pub alone : ℕ → ℕ → List ℕ → List ℕ
alone axis n shape = on_axis axis (λ m. n) (map (λ m. 0) shape)

-- the axis of an array that is gone along
abbrev pub GoesAlong : Along → ℕ → ℕ → Arr → Type 0
GoesAlong along origin axis a = axis_along along (length a.shape) origin ≡ Ok (Some axis)

-- arrays of one rank and of one type, and what they give catenated along an axis
pub record AreJoined (along : Along) (origin axis : ℕ) (a b c : Arr) : Type 0 where
  pub first : IsArray a.shape a.items
  pub second : IsArray b.shape b.items
  pub one_rank : length a.shape ≡ length b.shape
  pub one_type : are_numbers a.items ≡ are_numbers b.items
  pub axis_is : GoesAlong along origin axis a
  pub joined : catenated along origin a b ≡ Ok c

-- ---- what is promised

-- taking as much as A has from A,B gives A
abbrev pub TakesFirst : Type 0
TakesFirst = (along : Along) (origin axis : ℕ) (a b c k : Arr) → AreJoined along origin axis a b c
    → Counts a.shape c.shape k → taken k c ≡ Ok a

-- dropping as much gives B
abbrev pub DropsFirst : Type 0
DropsFirst = (along : Along) (origin axis : ℕ) (a b c k : Arr) → AreJoined along origin axis a b c
    → Counts (alone axis (length_of a axis) c.shape) c.shape k → dropped k c ≡ Ok b

-- the first n along an axis, and behind them what is left without them, are A: n is at most the axis's length
abbrev pub Rejoins : Type 0
Rejoins = (along : Along) (origin axis n : ℕ) (a k l : Arr) → IsArray a.shape a.items → GoesAlong along origin axis a → n ≤ length_of a axis
    → Counts (with_length axis n a.shape) a.shape k → Counts (alone axis n a.shape) a.shape l
    → and_then (taken k a) (λ first. and_then (dropped l a) (λ rest. catenated along origin first rest)) ≡ Ok a
