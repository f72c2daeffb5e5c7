-- Elements by index lists: for each axis a slot, which holds numbers of places on it or is empty.
use Rattle.std.specs.Prelude.{ℕ, ℤ, pos, negsuc, ◌-◌, ◌==◌, ◌&&◌, nat_lt, nat_le, cond}
use Rattle.std.specs.Prelude.{List, [], ◌∷◌, drop, length, slice_index_or, Option, None, Some, IsSome, Result, Ok, Err}
use Rattle.std.specs.List.{flat_map, range_with_len}
use Rattle.apl_faults.specs.declared.fault.Fault.{Fault}
use Rattle.apl_faults.specs.declared.fault.Fault.TheVariants.{Index, Rank}
use Rattle.apl_arrays.specs.Index.{indices, position_in}
use Rattle.apl_arrays.specs.Cells.{Arr, Items}
use Rattle.apl_arrays.specs.Results.{and_then, ok_map, all_ok}
use Rattle.apl_arrays.specs.Simple.{number_of_scalar}
use Rattle.apl_arrays.specs.Views.{picked, selected}
use Rattle.apl_arrays.specs.Checks.{demand, limited, numbers_of}

-- a number that counts places from the index origin, as a place below n
abbrev pub place_numbered : ℕ → ℕ → ℤ → Result ℕ Fault
place_numbered n origin (pos z) = cond (nat_le origin z && nat_lt (z - origin) n) (Ok (z - origin)) (Err Index)
place_numbered n origin (negsuc z) = Err Index

-- each slot holds one number
abbrev pub AreNumbers : List (Option Arr) → Type 0
AreNumbers [] = Unit {0}
AreNumbers (None ∷ slots) = ⊥
AreNumbers (Some a ∷ slots) = IsSome (number_of_scalar a) × AreNumbers slots

-- places on an axis, in ravel order of a shape
pub record Places : Type 0 where
  pub shape : List ℕ
  pub places : List ℕ

-- what a slot picks of an axis of length n: an empty one the whole axis, DOMAIN before INDEX
abbrev pub picked_by : ℕ → ℕ → Option Arr → Result Places Fault
picked_by n origin None = Ok (record { shape = n ∷ []; places = range_with_len 0 n })
picked_by n origin (Some a) =
    and_then (numbers_of a.items) (λ zs. ok_map (λ ps. record { shape = a.shape; places = ps }) (all_ok (place_numbered n origin) zs))

-- the same of each axis, from left to right
abbrev pub all_picked : List ℕ → ℕ → List (Option Arr) → Result (List Places) Fault
all_picked [] origin slots = Ok []
all_picked (n ∷ ns) origin [] = Ok []
all_picked (n ∷ ns) origin (slot ∷ slots) = and_then (picked_by n origin slot) (λ p. ok_map (λ ps. p ∷ ps) (all_picked ns origin slots))

-- as many slots as axes, else RANK
abbrev pub slots_fit : Arr → List (Option Arr) → Result (Unit {0}) Fault
slots_fit a slots = demand (length slots == length a.shape) Rank

-- what the slots pick, if they are as many
abbrev pub slots_of : Arr → ℕ → List (Option Arr) → Result (List Places) Fault
slots_of a origin slots = and_then (slots_fit a slots) (λ u. all_picked a.shape origin slots)

-- the slots' shapes one after another
abbrev pub joined_shape : List Places → List ℕ
joined_shape ps = flat_map (λ p. p.shape) ps

-- the index list to which one within the joined shape leads
abbrev pub led_to : List Places → List ℕ → List ℕ
led_to [] i = []
led_to (p ∷ ps) i = slice_index_or p.places (position_in p.shape i) 0 ∷ led_to ps (drop (length p.shape) i)

-- the elements to which the index lists within the joined shape lead
abbrev pub items_led_to : Items → List ℕ → List Places → Items
items_led_to items shape ps = picked items (λ i. position_in shape (led_to ps i)) (indices (joined_shape ps))

-- indexing: the slots, then LIMIT of the joined shape; at each index list the element to which it leads
abbrev pub indexed : Arr → List (Option Arr) → ℕ → Result Arr Fault
indexed b slots origin = and_then (slots_of b origin slots) (λ ps. ok_map (λ shape. selected b shape (led_to ps)) (limited (joined_shape ps)))
