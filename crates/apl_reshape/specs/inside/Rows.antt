-- Rows made of a block of one operand's items and a block of another's.
-- The rows end to end are the items that `Catenate` defines place by place.
use Rattle.std.specs.Prelude.{ℕ, pos, ◌+◌, ◌*◌, ◌≤◌, ◌++◌, Bool, true, false, if◌then◌else◌}
use Rattle.std.specs.Prelude.{List, [], ◌∷◌, map, length, slice_index_or}
use Rattle.std.specs.List.{flat_map, range_with_len}
use Rattle.apl_arrays.specs.Cells.{Items, Numbers, Characters}
use Rattle.apl_reshape.specs.declared.blocks.Block.{Block}
use Rattle.apl_reshape.specs.declared.pairs.Pair.{Pair}
use Rattle.apl_reshape.specs.declared.pairs.Pair.TheVariants as pair
use Rattle.apl_arrays.specs.Numbers.{values}
use Rattle.apl_reshape.specs.Catenate.{Both, BothNumbers, BothCharacters}

-- the item at a place, of which a scalar has one for all
abbrev pub item_at : {A : Type 0} → Bool → List A → A → ℕ → A
item_at is_scalar xs d p = slice_index_or xs (if is_scalar then 0 else p) d

-- so many items of an operand in a row
abbrev pub row_block : {A : Type 0} → (ℕ → A) → ℕ → ℕ → List A
row_block item len row = map (λ r. item (row * len + r)) (range_with_len 0 len)

-- the elements of a row: a of the first operand and b of the second
abbrev pub blocks : {A : Type 0} → (ℕ → A) → (ℕ → A) → ℕ → ℕ → ℕ → List A
blocks first second a b row = row_block first a row ++ row_block second b row

-- so many rows of these items
abbrev pub rows_of_lists : {A : Type 0} → Block → Block → ℕ → List A → List A → A → List A
rows_of_lists x y rows xs ys d = flat_map (blocks (item_at x.is_scalar xs d) (item_at y.is_scalar ys d) x.len y.len) (range_with_len 0 rows)

-- so many rows
abbrev pub rows_of : Block → Block → ℕ → Both → Items
rows_of x y rows (BothNumbers xs ys) = Numbers (rows_of_lists x y rows xs ys (pos 0))
rows_of x y rows (BothCharacters xs ys) = Characters (rows_of_lists x y rows xs ys 0)

-- as many items as so many blocks need
abbrev pub needed : Block → ℕ → ℕ
needed x rows = if x.is_scalar then 1 else rows * x.len

-- the elements of a pair
abbrev pub both_of : Pair → Both
both_of (pair.Numbers xs ys) = BothNumbers (values xs) (values ys)
both_of (pair.Characters xs ys) = BothCharacters xs.now ys.now

-- a pair has the items that so many blocks of each need
abbrev pub HasRows : Block → Block → ℕ → Both → Type 0
HasRows x y rows (BothNumbers xs ys) = (needed x rows ≤ length xs) × (needed y rows ≤ length ys)
HasRows x y rows (BothCharacters xs ys) = (needed x rows ≤ length xs) × (needed y rows ≤ length ys)

-- no axes
abbrev pub is_scalar_shape : List ℕ → Bool
is_scalar_shape [] = true
is_scalar_shape (n ∷ s) = false
