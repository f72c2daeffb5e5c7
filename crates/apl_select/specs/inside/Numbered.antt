-- Elements at the places that numbers count.
use Rattle.std.specs.Prelude.{ℕ, ℤ, pos, List, map, length, slice_index_or, Result}
use Rattle.apl_faults.specs.declared.fault.Fault.{Fault}
use Rattle.apl_arrays.specs.Cells.{Items, Numbers, Characters, cells_of}
use Rattle.apl_arrays.specs.Results.{all_ok, ok_map}
use Rattle.apl_select.specs.Indexing.{place_numbered}

-- the item at the place that a number counts from the index origin, where d stands for one beyond the list
abbrev pub item_numbered : {A : Type 0} → List A → ℕ → A → ℤ → Result A Fault
item_numbered xs origin d z = ok_map (λ p. slice_index_or xs p d) (place_numbered (length xs) origin z)

-- the elements at these places
abbrev pub at_places : Items → List ℕ → Items
at_places (Numbers zs) ps = Numbers (map (λ p. slice_index_or zs p (pos 0)) ps)
at_places (Characters cs) ps = Characters (map (λ p. slice_index_or cs p 0) ps)

-- the elements at the places that numbers count, or the first fault
abbrev pub items_numbered : Items → ℕ → List ℤ → Result Items Fault
items_numbered items origin zs = ok_map (at_places items) (all_ok (place_numbered (length (cells_of items)) origin) zs)
