-- The one place that numbers name, one for each axis.
-- It is the only place of those that `Indexing` picks.
use Rattle.std.specs.Prelude.{◌≡◌, ℕ, ◌+◌, ◌*◌, ◌==◌, cond, Bool, true, false, List, [], ◌∷◌, length, map, Option, None, Some, Result, Ok, Err, MatchBool}
use Rattle.std.specs.Option.{is_some, option_and_then}
use Rattle.std.specs.Result.{result_ok}
use Rattle.apl_arrays.specs.Cells.{Arr}
use Rattle.apl_arrays.specs.Index.{is_within, position_in}
use Rattle.apl_arrays.specs.Simple.{number_of_scalar}
use Rattle.apl_faults.specs.declared.fault.Fault.{Fault}
use Rattle.apl_faults.specs.declared.fault.Fault.TheVariants.{Index, Rank}
use Rattle.apl_select.specs.Indexing.{AreNumbers, Places, place_numbered, slots_of}

-- the place on an axis of length n that a slot of one number counts
abbrev pub counted_by : ℕ → ℕ → Option Arr → Option ℕ
counted_by n origin None = None
counted_by n origin (Some a) = option_and_then (λ z. result_ok (place_numbered n origin z)) (number_of_scalar a)

-- the place of the index list that slots count, one number each, after so many rows of the axes before
abbrev pub placed : ℕ → ℕ → List ℕ → List (Option Arr) → Option ℕ
placed origin rows [] slots = Some rows
placed origin rows (n ∷ ns) [] = None
placed origin rows (n ∷ ns) (slot ∷ slots) = option_and_then (λ k. placed origin (rows * n + k) ns slots) (counted_by n origin slot)

-- one place on each axis
abbrev pub one_each : List ℕ → List Places
one_each index = map (λ k. record { shape = []; places = k ∷ [] }) index

-- slots pick one place alone, that of an index list within the shape
pub record PicksPlace (a : Arr) (origin : ℕ) (slots : List (Option Arr)) (place : ℕ) : Type 0 where
  pub index : List ℕ
  pub picks : slots_of a origin slots ≡ Ok (one_each index)
  pub within : is_within a.shape index ≡ true
  pub there : place ≡ position_in a.shape index

-- a slot holds one number
abbrev pub holds_number : Option Arr → Bool
holds_number None = false
holds_number (Some a) = is_some (number_of_scalar a)

-- the fault of numbers that pick no place: one counts none, or there are too few or too many
abbrev pub fault_of_numbers : Arr → List (Option Arr) → Fault
fault_of_numbers a slots = cond (length slots == length a.shape) Index Rank

-- slots that pick no one place are at fault if each holds one number
abbrev pub PicksNone : Arr → ℕ → List (Option Arr) → Type 0
PicksNone a origin slots = AreNumbers slots → slots_of a origin slots ≡ Err (fault_of_numbers a slots)

-- what trying to write one number comes to: it is written or nothing is, or it is at fault
abbrev pub IsTried : Result Bool Fault → Result Arr Fault → Arr → Arr → Type 0
IsTried (Ok done) model old new = MatchBool done (model ≡ Ok new) (new ≡ old)
IsTried (Err fault) model old new = (model ≡ Err fault) × (new ≡ old)
