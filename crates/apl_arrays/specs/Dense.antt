-- Arrays that have axes.
use Rattle.std.specs.Prelude.{ℕ, ◌<◌, List, length}
use Rattle.apl_arrays.specs.Cells.{Items, IsArray}

-- a shape of one axis or more, and elements that fit it
pub record IsDense (shape : List ℕ) (items : Items) : Type 0 where
  pub array : IsArray shape items
  pub axes : 0 < length shape
