-- Which bytes aren't loaded, and why.
use Rattle.std.specs.Prelude.{◌≡◌, ℕ, List}
use Rattle.serde_json.specs.Data.{Data}
use Rattle.apl_workspace_file.specs.Fitting.{Fits}
use Rattle.apl_workspace_file.specs.Json.{IsJson}
use Rattle.apl_workspace_file.specs.Trees.{tree_of}
use Rattle.apl_workspace_file.specs.declared.fields.File.{File}
use Rattle.apl_workspace_file.specs.declared.error.ReadError.{ReadError}
use Rattle.apl_workspace_file.specs.declared.error.ReadError.TheVariants as read
use Rattle.apl_loading.specs.Refusals.{IsRefused}
use Rattle.apl_loading.specs.declared.error.LoadFault.{LoadFault}
use Rattle.apl_loading.specs.declared.error.LoadFault.TheVariants as fault
use Rattle.apl_workspace.specs.declared.error.LoadError.{LoadError}
use Rattle.apl_workspace.specs.declared.error.LoadError.TheVariants.{NotJson, Form, Array, Definition, Context, Code, Limit, Memory}

-- the bytes are those of a file of the right form that is refused for this
pub record IsRefusedFor (bytes : List ℕ) (fault : LoadFault) : Type 0 where
  pub file : File
  pub fits : Fits file
  pub json : IsJson bytes (tree_of file)
  pub refused : IsRefused file fault

-- Why bytes aren't loaded: they are no JSON; they are JSON of a tree that no file has; or of a file that is refused. Memory may always run out.
abbrev pub IsUnloaded : List ℕ → LoadError → Type 0
IsUnloaded bytes NotJson = (tree : Data) → ¬ IsJson bytes tree
IsUnloaded bytes Form = (tree : Data) × IsJson bytes tree × ((file : File) → Fits file → ¬ (tree_of file ≡ tree))
IsUnloaded bytes Array = IsRefusedFor bytes fault.Array
IsUnloaded bytes Definition = IsRefusedFor bytes fault.Definition
IsUnloaded bytes Context = IsRefusedFor bytes fault.Context
IsUnloaded bytes Code = IsRefusedFor bytes fault.Code
IsUnloaded bytes Limit = IsRefusedFor bytes fault.Limit
IsUnloaded bytes Memory = Unit {0}

-- the refusal for what reading answers, and for what the parts are refused for
abbrev pub error_of_read : ReadError → LoadError
error_of_read read.NotJson = NotJson
error_of_read read.Form = Form
error_of_read read.Memory = Memory

abbrev pub error_of_fault : LoadFault → LoadError
error_of_fault fault.Array = Array
error_of_fault fault.Definition = Definition
error_of_fault fault.Context = Context
error_of_fault fault.Code = Code
error_of_fault fault.Limit = Limit
error_of_fault fault.Memory = Memory
