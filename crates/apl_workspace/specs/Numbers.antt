-- The numbers of the refusals.
use Rattle.std.specs.Prelude.{ℕ}
use Rattle.apl_workspace.specs.declared.error.SaveError.{SaveError}
use Rattle.apl_workspace.specs.declared.error.SaveError.TheVariants as save
use Rattle.apl_workspace.specs.declared.error.LoadError.{LoadError}
use Rattle.apl_workspace.specs.declared.error.LoadError.TheVariants as load

abbrev pub save_number : SaveError → ℕ
save_number save.Running = 1
save_number save.Memory = 2

abbrev pub load_number : LoadError → ℕ
load_number load.NotJson = 1
load_number load.Form = 2
load_number load.Array = 3
load_number load.Definition = 4
load_number load.Context = 5
load_number load.Code = 6
load_number load.Limit = 7
load_number load.Memory = 8
