-- Indexed assignment, and indexing by the same slots.
use Rattle.std.specs.Prelude.{◌≡◌, ◌≢◌, ◌≤◌, ℕ, true, List, slice_get, Option, None, Some, Ok, AllPairs}
use Rattle.std.specs.List.{All}
use Rattle.apl_arrays.specs.Cells.{Arr, IsArray, cell_at, cells_of}
use Rattle.apl_arrays.specs.Checks.{count_of}
use Rattle.apl_arrays.specs.Index.{is_within, position_in}
use Rattle.apl_reshape.specs.Reshape.{reshaped, shape_of}
use Rattle.apl_select.specs.Assignment.{assigned, same_type}
use Rattle.apl_select.specs.Indexing.{Places, indexed, led_to, slots_of}
use Rattle.apl_select.specs.Lined.{place_served}

-- a slot is empty or holds an array
abbrev pub IsSlot : Option Arr → Type 0
IsSlot None = Unit {0}
IsSlot (Some a) = IsArray a.shape a.items

-- C is V after B was assigned by slots, which pick places
pub record AreAssigned (v b c : Arr) (slots : List (Option Arr)) (origin : ℕ) (ps : List Places) : Type 0 where
  pub variable : IsArray v.shape v.items
  pub value : IsArray b.shape b.items
  pub slots_are : All IsSlot slots
  pub one_type : same_type v.items b.items ≡ true
  pub picks : slots_of v origin slots ≡ Ok ps
  pub assigned_is : assigned v slots b origin ≡ Ok c

-- no slot picks a place twice
abbrev pub PickOnce : List Places → Type 0
PickOnce ps = All (λ p. AllPairs (λ j k. j ≢ k) p.places) ps

-- of the index lists of D that lead where i leads, j is the last
pub record LeadsLast (d : Arr) (ps : List Places) (i j : List ℕ) : Type 0 where
  pub first : is_within d.shape i ≡ true
  pub last : is_within d.shape j ≡ true
  pub there : led_to ps j ≡ led_to ps i
  pub behind : (k : List ℕ) → is_within d.shape k ≡ true → led_to ps k ≡ led_to ps i → position_in d.shape k ≤ position_in d.shape j

-- ---- what is promised

-- indexing gives at each index list the element of B that was the last to be written there; a B of one element gives it everywhere
abbrev pub LastStands : Type 0
LastStands = (v b c : Arr) (slots : List (Option Arr)) (origin : ℕ) (ps : List Places) → AreAssigned v b c slots origin ps
    → (d : Arr) × (indexed c slots origin ≡ Ok d)
    × ((i j : List ℕ) → LeadsLast d ps i j → cell_at d i ≡ slice_get (cells_of b.items) (place_served (count_of b) (position_in d.shape j)))

-- where no slot picks a place twice, indexing gives B, reshaped to the shape that the slots pick
abbrev pub ReadsBack : Type 0
ReadsBack = (v b c : Arr) (slots : List (Option Arr)) (origin : ℕ) (ps : List Places) → AreAssigned v b c slots origin ps → PickOnce ps
    → (d : Arr) × (indexed c slots origin ≡ Ok d) × (reshaped (shape_of d) b ≡ Ok d)
