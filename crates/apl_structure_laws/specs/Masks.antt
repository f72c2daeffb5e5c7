-- Expanding by a mask, and compressing by it.
use Rattle.std.specs.Prelude.{◌≡◌, ℕ, Ok}
use Rattle.apl_arrays.specs.declared.axis_choice.Along.{Along}
use Rattle.apl_arrays.specs.Cells.{Arr, IsArray}
use Rattle.apl_arrays.specs.Views.{length_of}
use Rattle.apl_select.specs.Compress.{compressed, expanded, ones}
use Rattle.apl_structure_laws.specs.Catenations.{GoesAlong}

-- ---- what is promised

-- what is expanded by a mask that has a 1 for each place of the axis, and compressed by the same mask, is as it was
abbrev pub CompressesBack : Type 0
CompressesBack = (along : Along) (origin axis : ℕ) (a b c : Arr) → IsArray a.shape a.items → IsArray b.shape b.items → GoesAlong along origin axis b
    → ones a.items ≡ length_of b axis → expanded along a b origin ≡ Ok c → compressed along a c origin ≡ Ok b
