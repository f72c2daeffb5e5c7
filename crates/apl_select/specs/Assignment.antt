-- Indexed assignment.
use Rattle.std.specs.Prelude.{ℕ, pos, ◌==◌, ◌||◌, Bool, true, false, not, cond, List, [], ◌∷◌}
use Rattle.std.specs.Prelude.{map, length, slice_index_or, Option, None, Some, Result, Ok}
use Rattle.std.specs.Option.{option_map}
use Rattle.std.specs.List.{filter}
use Rattle.apl_faults.specs.declared.fault.Fault.{Fault}
use Rattle.apl_faults.specs.declared.fault.Fault.TheVariants.{Domain, Rank, Length}
use Rattle.apl_arrays.specs.Index.{indices, position_in, size_of}
use Rattle.apl_arrays.specs.Cells.{Arr, Items, Numbers, Characters}
use Rattle.apl_arrays.specs.Results.{and_then, ok_map}
use Rattle.apl_arrays.specs.Checks.{demand, limited, same, count_of}
use Rattle.apl_select.specs.Lined.{place_served, item_or}
use Rattle.apl_select.specs.Indexing.{Places, slots_of, joined_shape, led_to}

-- the lengths other than 1
abbrev pub proper : List ℕ → List ℕ
proper shape = filter (λ n. not (n == 1)) shape

-- one element extends over a shape; else axes of length 1 don't count, and the others are the same: RANK, then LENGTH
abbrev pub fits_over : List ℕ → Arr → Result (Unit {0}) Fault
fits_over shape b =
    cond (count_of b == 1) (Ok tt)
    (and_then (demand (length (proper b.shape) == length (proper shape)) Rank) (λ u. demand (same (proper b.shape) (proper shape)) Length))

-- both are numbers, or both are characters
abbrev pub same_type : Items → Items → Bool
same_type (Numbers xs) (Numbers ys) = true
same_type (Numbers xs) (Characters ys) = false
same_type (Characters xs) (Numbers ys) = false
same_type (Characters xs) (Characters ys) = true

-- the first one, if there is one
abbrev pub either_of : {A : Type 0} → Option A → Option A → Option A
either_of None o = o
either_of (Some x) o = Some x

-- the last item that passes the test
abbrev pub last_where : {A : Type 0} → (A → Bool) → List A → Option A
last_where p [] = None
last_where p (x ∷ xs) = either_of (last_where p xs) (cond (p x) (Some x) None)

-- the place, in ravel order, of the last index list within the joined shape that leads to i
abbrev pub last_to : List Places → List ℕ → Option ℕ
last_to ps i = option_map (position_in (joined_shape ps)) (last_where (λ j. same (led_to ps j) i) (indices (joined_shape ps)))

-- at each index list the element of ys at the place that `source` gives, of which a single one serves at each, and without a place that of xs
abbrev pub overlaid : {A : Type 0} → A → List A → List A → List ℕ → (List ℕ → Option ℕ) → List A
overlaid d xs ys shape source =
    map (λ i. item_or (slice_index_or xs (position_in shape i) d) ys (option_map (place_served (length ys)) (source i))) (indices shape)

-- the same of elements of one type; of two types nothing is taken
abbrev pub overlaid_items : Items → Items → List ℕ → (List ℕ → Option ℕ) → Items
overlaid_items (Numbers xs) (Numbers ys) shape source = Numbers (overlaid (pos 0) xs ys shape source)
overlaid_items (Numbers xs) (Characters ys) shape source = Numbers xs
overlaid_items (Characters xs) (Numbers ys) shape source = Characters xs
overlaid_items (Characters xs) (Characters ys) shape source = Characters (overlaid 0 xs ys shape source)

-- v with b's elements where index lists lead: the last of those that lead to one place stands
abbrev pub written : Arr → List Places → Arr → Arr
written v ps b = record { shape = v.shape; items = overlaid_items v.items b.items v.shape (last_to ps) }

-- elements of one type may be written to so many places
abbrev pub typed : ℕ → Items → Items → Result (Unit {0}) Fault
typed count to from = demand (count == 0 || same_type to from) Domain

-- what comes after the slots and the limits of what they pick: RANK and LENGTH, and DOMAIN for another type unless nothing is picked
abbrev pub assigned_at : Arr → List Places → List ℕ → Arr → Result Arr Fault
assigned_at v ps shape b = and_then (fits_over shape b) (λ u. ok_map (λ u. written v ps b) (typed (size_of shape) v.items b.items))

-- indexed assignment: the slots, LIMIT of what they pick, and what comes after
abbrev pub assigned : Arr → List (Option Arr) → Arr → ℕ → Result Arr Fault
assigned v slots b origin = and_then (slots_of v origin slots) (λ ps. and_then (limited (joined_shape ps)) (λ shape. assigned_at v ps shape b))
