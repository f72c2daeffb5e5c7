-- Index lists by the number of those before them.
use Rattle.std.specs.Prelude.{ℕ, ◌/◌, ◌%◌, List, [], ◌∷◌, drop}
use Rattle.apl_arrays.specs.declared.strided.Strided.{Strided}
use Rattle.apl_arrays.specs.Index.{size_of}
use Rattle.apl_arrays.specs.Cells.{Items, Numbers, Characters}
use Rattle.apl_arrays.specs.Left.{listed}
use Rattle.apl_arrays.specs.Strides.{seen}

-- the index list within a shape that comes after so many others
abbrev pub index_at : List ℕ → ℕ → List ℕ
index_at [] nth = []
index_at (n ∷ ns) nth = (nth / size_of ns) ∷ index_at ns (nth % size_of ns)

-- the elements without the first so many
abbrev pub without : ℕ → Items → Items
without nth (Numbers zs) = Numbers (drop nth zs)
without nth (Characters cs) = Characters (drop nth cs)

-- the elements that steps show, without the first so many
abbrev pub left_after : Strided → ℕ → Items
left_after s nth = without nth (seen (listed s.items) s.offset s.axes.now)
