-- For private clauses: the parts that a file holds, list by list.
-- Together they say what `Spelled` of the saved parts says of a file.
use Rattle.std.specs.Prelude.{◌≡◌}
use Rattle.apl_parts.specs.Workspaces.{Pieces}
use Rattle.apl_workspace_file.specs.declared.fields.File.{File}
use Rattle.apl_saved.specs.Rules.{function_names}
use Rattle.apl_loading.specs.Refusals.{AreFunctions, AreVariables, AreStacked}

pub record AreHeld (f : File) (p : Pieces) : Type 0 where
  pub functions : AreFunctions f.functions p.functions
  pub variables : AreVariables (function_names p.functions) f.variables p.variables
  pub origin : f.origin ≡ p.origin
  pub contexts : AreStacked f.contexts p.contexts
