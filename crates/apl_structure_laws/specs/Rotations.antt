-- Rotating there and back.
use Rattle.std.specs.Prelude.{◌≡◌, ℕ, neg_ℤ, map, Ok}
use Rattle.apl_arrays.specs.declared.axis_choice.Along.{Along}
use Rattle.apl_arrays.specs.Cells.{Arr, Items, Numbers, Characters, IsArray}
use Rattle.apl_turns.specs.Turns.{rotated}

-- each number's opposite
abbrev pub opposites : Items → Items
opposites (Numbers zs) = Numbers (map neg_ℤ zs)
opposites (Characters cs) = Characters cs

-- the array of the opposites
abbrev pub opposite : Arr → Arr
opposite a = record { shape = a.shape; items = opposites a.items }

-- ---- what is promised

-- what is rotated by A, and then by A's opposite, is as it was
abbrev pub RotatesBack : Type 0
RotatesBack = (along : Along) (origin : ℕ) (a b c : Arr) → IsArray b.shape b.items → rotated along origin a b ≡ Ok c → rotated along origin (opposite a) c ≡ Ok b
