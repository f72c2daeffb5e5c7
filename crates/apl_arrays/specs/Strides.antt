-- Places of index lists in a ravel, by steps along each axis, forward or backward.
use Rattle.std.specs.Prelude.{◌≡◌, ℕ, ◌+◌, ◌-◌, ◌*◌, ◌<◌, ◌≤◌, ◌^◌, List, [], ◌∷◌, length, true}
use Rattle.apl_arrays.specs.declared.axis.Axis.{Axis}
use Rattle.apl_arrays.specs.declared.strided.Strided.{Strided}
use Rattle.apl_arrays.specs.Index.{indices, is_within, bound_of, size_of}
use Rattle.apl_arrays.specs.Cells.{Arr, Items, AreStorable, cells_of}
use Rattle.apl_arrays.specs.Left.{listed}
use Rattle.apl_arrays.specs.Views.{picked}

-- the shape
abbrev pub lengths : List Axis → List ℕ
lengths [] = []
lengths (a ∷ axes) = a.length ∷ lengths axes

-- how far along an axis an index is
abbrev pub step_at : Axis → ℕ → ℕ
step_at a i = a.up * i + a.down * (a.length - 1 - i)

-- where an index list stands, from p on
abbrev pub place_at : ℕ → List Axis → List ℕ → ℕ
place_at p [] is = p
place_at p (a ∷ axes) [] = p
place_at p (a ∷ axes) (i ∷ is) = place_at (p + step_at a i) axes is

-- no step or sum on the way to a place is more
abbrev pub reach_of : ℕ → List Axis → ℕ
reach_of p [] = p
reach_of p (a ∷ axes) = reach_of (p + (a.up + a.down) * (a.length + 1)) axes

-- each index list within the shape stands below n
abbrev pub AllPlaced : ℕ → ℕ → List Axis → Type 0
AllPlaced n p axes = (i : List ℕ) → is_within (lengths axes) i ≡ true → place_at p axes i < n

-- the elements at the index lists, in their order
abbrev pub seen : Items → ℕ → List Axis → Items
seen items p axes = picked items (place_at p axes) (indices (lengths axes))

-- the axes of a whole array
abbrev pub whole_axes : List ℕ → List Axis
whole_axes [] = []
whole_axes (n ∷ ns) = record { length = n; up = size_of ns; down = 0 } ∷ whole_axes ns

-- the steps from p on stay within these elements and within an array's limits
pub record IsView (items : Items) (p : ℕ) (axes : List Axis) : Type 0 where
  pub placed : AllPlaced (length (cells_of items)) p axes
  pub near : reach_of p axes < 2 ^ 62
  pub small : bound_of (lengths axes) ≤ 1000000
  pub storable : AreStorable items

-- the steps show this array
pub record Shows (a : Arr) (s : Strided) : Type 0 where
  pub shape : a.shape ≡ lengths s.axes.now
  pub items : a.items ≡ seen (listed s.items) s.offset s.axes.now
  pub steps : IsView (listed s.items) s.offset s.axes.now
  pub few_axes : length s.axes.now ≤ 8
