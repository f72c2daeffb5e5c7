-- What a file that is read keeps to: its numbers are in range, and in version 1 no context is an execute.
use Rattle.std.specs.Prelude.{◌≡◌, ℕ, ℤ, pos, negsuc, ◌<◌, ◌^◌, List, Bool, true, false, Option, Some, None}
use Rattle.std.specs.List.{list_all, AllByRecursion}
use Rattle.apl_workspace_file.specs.declared.fields.Version.{Version}
use Rattle.apl_workspace_file.specs.declared.fields.Version.TheVariants.{One, Two}
use Rattle.apl_workspace_file.specs.declared.fields.File.{File}
use Rattle.apl_workspace_file.specs.declared.fields.FunctionField.{FunctionField}
use Rattle.apl_workspace_file.specs.declared.fields.VariableField.{VariableField}
use Rattle.apl_workspace_file.specs.declared.fields.ArrayField.{ArrayField}
use Rattle.apl_workspace_file.specs.declared.fields.Elements.{Elements}
use Rattle.apl_workspace_file.specs.declared.fields.Elements.TheVariants.{Numbers, Text}
use Rattle.apl_workspace_file.specs.declared.fields.ContextField.{ContextField}
use Rattle.apl_workspace_file.specs.declared.fields.ContextField.TheVariants.{Statement, Call, Execute}
use Rattle.apl_workspace_file.specs.declared.fields.StatementField.{StatementField}
use Rattle.apl_workspace_file.specs.declared.fields.CallField.{CallField}
use Rattle.apl_workspace_file.specs.declared.fields.LocalField.{LocalField}
use Rattle.apl_workspace_file.specs.declared.fields.RestField.{RestField}
use Rattle.apl_workspace_file.specs.declared.fields.OperandField.{OperandField}
use Rattle.apl_workspace_file.specs.declared.fields.OperandField.TheVariants.{Array, Slots}

-- a whole number of a file
abbrev pub IsWhole : ℕ → Type 0
IsWhole n = n < 2 ^ 63

-- a number of 64 bits; only too great ones are to be told, since none of an `i64` is too small
abbrev pub IsNumber : ℤ → Type 0
IsNumber (pos n) = n < 2 ^ 63
IsNumber (negsuc n) = n < 2 ^ 63

abbrev pub FitsOption : {A : Type 0} → (A → Type 0) → Option A → Type 0
FitsOption Fits None = Unit {0}
FitsOption Fits (Some x) = Fits x

abbrev pub FitsElements : Elements → Type 0
FitsElements (Numbers zs) = AllByRecursion IsNumber zs
FitsElements (Text s) = Unit {0}

abbrev pub FitsArray : ArrayField → Type 0
FitsArray a = AllByRecursion IsWhole a.shape × FitsElements a.elements

abbrev pub FitsOperand : OperandField → Type 0
FitsOperand (Array a) = FitsArray a
FitsOperand (Slots slots) = AllByRecursion (FitsOption FitsArray) slots

abbrev pub FitsRest : RestField → Type 0
FitsRest r = IsWhole r.done × AllByRecursion FitsOperand r.operands

abbrev pub FitsLocal : LocalField → Type 0
FitsLocal l = FitsOption FitsArray l.value

abbrev pub FitsStatement : StatementField → Type 0
FitsStatement s = FitsRest s.rest

abbrev pub FitsCall : CallField → Type 0
FitsCall c = IsWhole c.at × AllByRecursion FitsLocal c.locals × FitsOption FitsRest c.rest

abbrev pub FitsContext : ContextField → Type 0
FitsContext (Statement s) = FitsStatement s
FitsContext (Call c) = FitsCall c
FitsContext (Execute s) = FitsStatement s

abbrev pub FitsFunction : FunctionField → Type 0
FitsFunction f = AllByRecursion IsWhole f.stop × AllByRecursion IsWhole f.trace

abbrev pub FitsVariable : VariableField → Type 0
FitsVariable v = FitsArray v.value

-- a context that version 1 knows
abbrev pub is_of_version_one : ContextField → Bool
is_of_version_one (Statement s) = true
is_of_version_one (Call c) = true
is_of_version_one (Execute s) = false

-- a file of version 1 has no execute
abbrev pub fits_version : Version → List ContextField → Bool
fits_version One contexts = list_all is_of_version_one contexts
fits_version Two contexts = true

pub record Fits (f : File) : Type 0 where
  pub version : fits_version f.version f.contexts ≡ true
  pub origin : f.origin < 2
  pub contexts : AllByRecursion FitsContext f.contexts
  pub functions : AllByRecursion FitsFunction f.functions
  pub variables : AllByRecursion FitsVariable f.variables
