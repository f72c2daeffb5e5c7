-- Structural functions of elements.
use Rattle.std.specs.Prelude.{ℕ, ℤ, pos, List}
use Rattle.apl_arrays.specs.Cells.{Items, Numbers, Characters}

-- what f makes of elements, given what stands for an item beyond them, and the fill, 0 or a blank
abbrev pub made_of : ((A : Type 0) → A → A → List A → List A) → Items → Items
made_of f (Numbers zs) = Numbers (f ℤ (pos 0) (pos 0) zs)
made_of f (Characters cs) = Characters (f ℕ 0 32 cs)
