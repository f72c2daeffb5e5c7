-- Elements written over others, place by place.
-- They are the cells of `Assignment`, of which the last that is written stands.
use Rattle.std.specs.Prelude.{ℕ, pos, nat_eq, List, map, length, slice_index_or}
use Rattle.std.specs.Option.{option_map}
use Rattle.std.specs.List.{range_with_len}
use Rattle.apl_arrays.specs.Cells.{Arr, Items, Numbers, Characters}
use Rattle.apl_select.specs.Lined.{place_served, item_or}
use Rattle.apl_select.specs.Assignment.{last_where}

-- what stands at a place where ys are written to places one after another, so many of them
abbrev pub put_at : {A : Type 0} → List A → List A → List ℕ → ℕ → ℕ → A → A
put_at xs ys places count q d =
    item_or (slice_index_or xs q d) ys (option_map (place_served (length ys)) (last_where (λ k. nat_eq (slice_index_or places k 0) q) (range_with_len 0 count)))

-- what stands in the end, place by place
abbrev pub put_all : {A : Type 0} → A → List A → List A → List ℕ → List A
put_all d xs ys places = map (λ q. put_at xs ys places (length places) q d) (range_with_len 0 (length xs))

-- the same of elements of one type; of two types nothing is taken
abbrev pub put_items : Items → Items → List ℕ → Items
put_items (Numbers xs) (Numbers ys) places = Numbers (put_all (pos 0) xs ys places)
put_items (Numbers xs) (Characters ys) places = Numbers xs
put_items (Characters xs) (Numbers ys) places = Characters xs
put_items (Characters xs) (Characters ys) places = Characters (put_all 0 xs ys places)

-- v with b's elements written to places one after another
abbrev pub overwritten : Arr → Arr → List ℕ → Arr
overwritten v b places = record { shape = v.shape; items = put_items v.items b.items places }
