-- The elements that are read, and those that an iterator has not given yet.
use Rattle.std.specs.Prelude.{List, map}
use Rattle.apl_arrays.specs.declared.cell.Cell.{Cell}
use Rattle.apl_arrays.specs.declared.cell.Cell.TheVariants.{Num, Char}
use Rattle.apl_arrays.specs.declared.elements.Elements.{Elements}
use Rattle.apl_arrays.specs.declared.elements.Elements.TheVariants.{Nums, Chars}
use Rattle.apl_arrays.specs.Cells.{Items, Numbers, Characters}
use Rattle.apl_arrays.specs.Numbers.{values}

-- the elements, all numbers or all characters
abbrev pub listed : Elements → Items
listed (Nums zs) = Numbers (values zs)
listed (Chars cs) = Characters cs.now

-- the same, each with its type
abbrev pub cells_left : Elements → List Cell
cells_left (Nums zs) = map Num (values zs)
cells_left (Chars cs) = map Char cs.now
