-- Lines along an axis, by places in the ravel: planes one after another, in each as many rows as the axis is long, and in each row an
-- element of each of the plane's lines.
-- They are the elements of the reversal and the rotation, which are defined index by index.
use Rattle.std.specs.Prelude.{◌≡◌, ◌≢◌, ℕ, ℤ, pos, ◌+◌, ◌*◌, ◌/◌, ◌%◌, ◌==◌, ◌<◌, ◌≤◌, unsigned_abs, if◌then◌else◌}
use Rattle.std.specs.Prelude.{List, map, length, drop, slice_index_or}
use Rattle.std.specs.Int.{int_rem_euclid}
use Rattle.std.specs.List.{range_with_len}
use Rattle.apl_arrays.specs.Index.{size_of}
use Rattle.apl_arrays.specs.Cells.{Arr, Items}
use Rattle.apl_arrays.specs.Structural.{made_of}
use Rattle.apl_arrays.specs.Views.{all_at}
use Rattle.apl_turns.specs.declared.lines.Turn.{Turn}

-- a number that turns a line of so many elements, as one below as many
abbrev pub shift_of : ℕ → ℤ → ℕ
shift_of rows z = unsigned_abs (int_rem_euclid z (pos rows))

-- by how many elements a line is turned: a single number serves for all lines
abbrev pub shift_at : List ℕ → ℕ → ℕ
shift_at shifts line = slice_index_or shifts (if length shifts == 1 then 0 else line) 0

-- the place in a plane from which the element at a place of it comes
abbrev pub source_in : ℕ → ℕ → (ℕ → ℕ) → ℕ → ℕ
source_in rows width shift place = (place / width + shift (place % width)) % rows * width + place % width

-- the place from which the element at a place comes
abbrev pub source : ℕ → ℕ → List ℕ → ℕ → ℕ
source rows width shifts place =
    let plane = place / (rows * width) in
    plane * (rows * width) + source_in rows width (λ line. shift_at shifts (plane * width + line)) (place % (rows * width))

-- the items from those places
abbrev pub sourced_list : {A : Type 0} → ℕ → ℕ → List ℕ → List A → A → List A
sourced_list rows width shifts xs d = all_at xs (source rows width shifts) (range_with_len 0 (length xs)) d

-- the elements from those places
abbrev pub sourced : ℕ → ℕ → List ℕ → Items → Items
sourced rows width shifts items = made_of (λ A d fill xs. sourced_list rows width shifts xs d) items

-- a plane, each line of it turned by its own number
abbrev pub turned_plane : {A : Type 0} → List A → List ℕ → ℕ → A → List A
turned_plane plane shifts rows d = all_at plane (source_in rows (length shifts) (λ line. slice_index_or shifts line 0)) (range_with_len 0 (length plane)) d

-- a row of it
abbrev pub turned_row : {A : Type 0} → List A → List ℕ → ℕ → ℕ → A → List A
turned_row plane shifts rows row d =
    all_at plane (λ line. (row + slice_index_or shifts line 0) % rows * length shifts + line) (range_with_len 0 (length shifts)) d

-- each line along an axis turned round by its number
abbrev pub turned_lines : ℕ → List ℤ → Arr → Arr
turned_lines axis zs b =
    let rows = slice_index_or b.shape axis 0 in
    let width = size_of (drop (axis + 1) b.shape) in
    record { shape = b.shape; items = sourced rows width (map (shift_of rows) zs) b.items }

-- so many elements lie as the turn says, and each line has a number below the rows, its own or that of all
pub record IsTurn (t : Turn) (count : ℕ) : Type 0 where
  pub whole : count ≡ t.extent.planes * (t.extent.rows * t.extent.width)
  pub some : 0 < count
  pub small : count ≤ 1000000
  pub known : length t.shifts.now ≢ 1 → length t.shifts.now ≡ t.extent.planes * t.extent.width
  pub below : (line : ℕ) → shift_at t.shifts.now line < t.extent.rows
