-- Lines along the last axis, by places in the ravel.
use Rattle.std.specs.Prelude.{ℕ, ◌+◌, ◌-◌, ◌*◌, ◌/◌, ◌%◌, List, length}
use Rattle.std.specs.List.{range_with_len}
use Rattle.apl_arrays.specs.Cells.{Items}
use Rattle.apl_arrays.specs.Structural.{made_of}
use Rattle.apl_arrays.specs.Views.{all_at}

-- the place from which the element at a place comes, where lines that are so long are taken the other way
abbrev pub mirror : ℕ → ℕ → ℕ
mirror size place = place / size * size + (size - 1 - place % size)

-- the items from those places
abbrev pub mirrored_list : {A : Type 0} → ℕ → List A → A → List A
mirrored_list size xs d = all_at xs (mirror size) (range_with_len 0 (length xs)) d

-- the elements from those places
abbrev pub mirrored : ℕ → Items → Items
mirrored size items = made_of (λ A d fill xs. mirrored_list size xs d) items
