-- Items looked up among others.
use Rattle.std.specs.Prelude.{ℕ, ℤ, pos, ◌+◌, ◌==◌, nat_eq, Bool, false, List, length, map, Result}
use Rattle.std.specs.Ordering.{int_eq}
use Rattle.std.specs.List.{position_or_len, list_any}
use Rattle.apl_faults.specs.declared.fault.Fault.{Fault}
use Rattle.apl_faults.specs.declared.fault.Fault.TheVariants.{Rank}
use Rattle.apl_arrays.specs.Cells.{Arr, Items, Numbers, Characters}
use Rattle.apl_arrays.specs.Checks.{demand}
use Rattle.apl_arrays.specs.Results.{ok_map}
use Rattle.apl_scalar.specs.Functions.{number_of}

-- for each item of ys its first place among xs, or how many those are; a character is no number
abbrev pub places_in : Items → Items → List ℕ
places_in (Numbers xs) (Numbers ys) = map (λ y. position_or_len (int_eq y) xs) ys
places_in (Numbers xs) (Characters ys) = map (λ y. length xs) ys
places_in (Characters xs) (Numbers ys) = map (λ y. length xs) ys
places_in (Characters xs) (Characters ys) = map (λ y. position_or_len (nat_eq y) xs) ys

-- the same, counted from the index origin
abbrev pub places_from : ℕ → Items → Items → List ℤ
places_from origin xs ys = map (λ place. pos (origin + place)) (places_in xs ys)

-- whether each item of xs stands among ys; a character is no number
abbrev pub stand_in : Items → Items → List Bool
stand_in (Numbers xs) (Numbers ys) = map (λ x. list_any (int_eq x) ys) xs
stand_in (Numbers xs) (Characters ys) = map (λ x. false) xs
stand_in (Characters xs) (Numbers ys) = map (λ x. false) xs
stand_in (Characters xs) (Characters ys) = map (λ x. list_any (nat_eq x) ys) xs

-- for each of b its first place in the vector a, from the index origin on
abbrev pub index_of : Arr → Arr → ℕ → Result Arr Fault
index_of a b origin =
    ok_map (λ u. record { shape = b.shape; items = Numbers (places_from origin a.items b.items) }) (demand (length a.shape == 1) Rank)

-- for each item of xs 1 where it stands among ys, else 0
abbrev pub verdicts_in : Items → Items → List ℤ
verdicts_in xs ys = map number_of (stand_in xs ys)

-- for each of a 1 where it stands in b, else 0
abbrev pub membership : Arr → Arr → Arr
membership a b = record { shape = a.shape; items = Numbers (verdicts_in a.items b.items) }
