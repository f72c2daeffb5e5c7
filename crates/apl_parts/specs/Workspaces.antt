-- A workspace in parts.
use Rattle.std.specs.Prelude.{ℕ, List}
use Rattle.apl_arrays.specs.Cells.{Arr}
use Rattle.apl_defn.specs.Definitions.{Text}
use Rattle.apl_parts.specs.declared.parts.ContextPart.{ContextPart}
use Rattle.apl_parts.specs.Pieces.{Watched}

-- the global functions and the global variables, each ascending by name, the index origin, and the contexts, the oldest first
pub record Pieces : Type 0 where
  pub functions : List Watched
  pub variables : List (Text × Arr)
  pub origin : ℕ
  pub contexts : List ContextPart

-- the workspace of these parts
abbrev pub workspace_of : List Watched → List (Text × Arr) → ℕ → List ContextPart → Pieces
workspace_of functions variables origin contexts = record { functions = functions; variables = variables; origin = origin; contexts = contexts }
