-- One element in no axes is a scalar.
use Rattle.std.proofs.Common.{◌≡◌, ℕ, List, [], ◌∷◌, length, ap, sym, arith, Some, true}
use Rattle.std.specs.Prelude.{◌==◌, slice_get}
use Rattle.std.proofs.lemmas.Bool.{eqb-true}
use Rattle.apl_arrays.specs.declared.cell.Cell.{Cell}
use Rattle.apl_arrays.specs.declared.cell.Cell.TheVariants.{Num, Char}
use Rattle.apl_arrays.specs.Index.{size_of}
use Rattle.apl_arrays.specs.Cells.{Items, Numbers, Characters, cells_of}
use Rattle.apl_arrays.specs.Simple.{single}

pub one_cell : (shape : List ℕ) (items : Items) (cell : Cell) → (length shape == 0) ≡ true → length (cells_of items) ≡ size_of shape →
    slice_get (cells_of items) 0 ≡ Some cell → single cell ≡ record { shape = shape; items = items }
one_cell (n ∷ ns) items cell e l h = absurd (omega (arith, eqb-true (length (n ∷ ns)) 0 e))
one_cell [] (Numbers []) cell e l h = absurd (omega arith)
one_cell [] (Numbers (z ∷ [])) cell e l h = let k : Num z ≡ cell = cc in ap single (sym k)
one_cell [] (Numbers (z ∷ y ∷ zs)) cell e l h = absurd (omega arith)
one_cell [] (Characters []) cell e l h = absurd (omega arith)
one_cell [] (Characters (c ∷ [])) cell e l h = let k : Char c ≡ cell = cc in ap single (sym k)
one_cell [] (Characters (c ∷ d ∷ cs)) cell e l h = absurd (omega arith)
