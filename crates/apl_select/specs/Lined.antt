-- Elements taken anew along an axis.
use Rattle.std.specs.Prelude.{ℕ, pos, ◌==◌, cond, List, [], ◌∷◌, map, length, slice_index_or, Option, None, Some, Result}
use Rattle.std.specs.Option.{option_map}
use Rattle.apl_faults.specs.declared.fault.Fault.{Fault}
use Rattle.apl_arrays.specs.declared.axis_choice.Along.{Along}
use Rattle.apl_arrays.specs.Index.{indices, position_in}
use Rattle.apl_arrays.specs.Cells.{Arr, Items, Numbers, Characters}
use Rattle.apl_arrays.specs.Results.{ok_map}
use Rattle.apl_arrays.specs.Views.{on_axis}
use Rattle.apl_arrays.specs.Checks.{limited}
use Rattle.apl_arrays.specs.Along.{axis_along}

-- a scalar has one axis here
abbrev pub lined_shape : List ℕ → List ℕ
lined_shape [] = 1 ∷ []
lined_shape (n ∷ ns) = n ∷ ns

-- a scalar as the vector of its element, any other array as it is
abbrev pub lined : Arr → Arr
lined a = record { shape = lined_shape a.shape; items = a.items }

-- the one axis of a scalar taken as a vector
abbrev pub or_first : Option ℕ → ℕ
or_first None = 0
or_first (Some axis) = axis

-- the axis to go along, from 0
abbrev pub axis_in : Along → Arr → ℕ → Result ℕ Fault
axis_in along a origin = ok_map or_first (axis_along along (length a.shape) origin)

-- the place for k among n items, of which a single one serves at each
abbrev pub place_served : ℕ → ℕ → ℕ
place_served n k = cond (n == 1) 0 k

-- the item at a place, or the fill where there is no place
abbrev pub item_or : {A : Type 0} → A → List A → Option ℕ → A
item_or fill xs None = fill
item_or fill xs (Some place) = slice_index_or xs place fill

-- an element for each index list: the one at its place, and where it has none 0 or a blank
abbrev pub filled : Items → (List ℕ → Option ℕ) → List (List ℕ) → Items
filled (Numbers zs) place is = Numbers (map (λ i. item_or (pos 0) zs (place i)) is)
filled (Characters cs) place is = Characters (map (λ i. item_or 32 cs (place i)) is)

-- the array of this shape whose element at i is a's at g(i), or a fill where there is no g(i)
abbrev pub selected_or_filled : Arr → List ℕ → (List ℕ → Option (List ℕ)) → Arr
selected_or_filled a shape g = record { shape = shape; items = filled a.items (λ i. option_map (position_in a.shape) (g i)) (indices shape) }

-- the places of an axis, one after another along it, each with all its elements; fills where there is no place
abbrev pub laid : ℕ → List (Option ℕ) → Arr → Arr
laid axis places a =
    selected_or_filled a (on_axis axis (λ n. length places) a.shape)
    (λ i. option_map (λ place. on_axis axis (λ k. place) i) (slice_index_or places (slice_index_or i axis 0) None))

-- the same, if an array may have its shape
abbrev pub laid_within : ℕ → List (Option ℕ) → Arr → Result Arr Fault
laid_within axis places a = ok_map (λ shape. laid axis places a) (limited (on_axis axis (λ n. length places) a.shape))
