-- Which file is refused, and for what: for the first rule that fails.
use Rattle.std.specs.Prelude.{◌≡◌, ◌⊎◌, ℕ, ◌+◌, ◌≤◌, List, [], ◌∷◌, Contains, Option, Some, None}
use Rattle.std.specs.List.{AllByRecursion}
use Rattle.std.specs.declared.cmp.Ordering.TheVariants.{Less}
use Rattle.apl_arrays.specs.Cells.{Arr}
use Rattle.apl_tokens.specs.Spelling.{IsName}
use Rattle.apl_defn.specs.Definitions.{Text, Definition}
use Rattle.apl_defn.specs.Defining.{IsDefined}
use Rattle.apl_names.specs.Maps.{name_cmp}
use Rattle.apl_machine_state.specs.declared.operand.Operand.{Operand}
use Rattle.apl_parts.specs.declared.parts.ContextPart.{ContextPart}
use Rattle.apl_parts.specs.Pieces.{Watched}
use Rattle.apl_parts.specs.Restored.{IsWatched, waiting_in}
use Rattle.apl_workspace_file.specs.declared.fields.File.{File}
use Rattle.apl_workspace_file.specs.declared.fields.FunctionField.{FunctionField}
use Rattle.apl_workspace_file.specs.declared.fields.VariableField.{VariableField}
use Rattle.apl_workspace_file.specs.declared.fields.ContextField.{ContextField}
use Rattle.apl_workspace_file.specs.declared.fields.ContextField.TheVariants as fields
use Rattle.apl_workspace_file.specs.declared.fields.LocalField.{LocalField}
use Rattle.apl_workspace_file.specs.declared.fields.RestField.{RestField}
use Rattle.apl_workspace_file.specs.declared.fields.OperandField.{OperandField}
use Rattle.apl_saved.specs.Spelled.{Pairwise, BothOrNeither, IsArrayOf, IsOperandOf, IsDefinitionOf, IsFunctionOf, IsVariableOf, IsContextOf}
use Rattle.apl_saved.specs.Rules.{IsContext, Follows, counted, function_names}
use Rattle.apl_loading.specs.declared.error.LoadFault.{LoadFault}
use Rattle.apl_loading.specs.declared.error.LoadFault.TheVariants as fault
use Rattle.apl_loading.specs.Small.{IsSmall, IsSmallOption, IsSmallOperand}

-- ---- rules in an order

-- a rule, the fault where it fails, and what is looked at after it
abbrev pub Unless : Type 0 → LoadFault → (LoadFault → Type 0) → LoadFault → Type 0
Unless rule fault after e = (¬ rule × (e ≡ fault)) ⊎ (rule × after e)

-- after the last rule nothing is refused
abbrev pub Nothing : LoadFault → Type 0
Nothing e = ⊥

-- The fields of a list stand for these parts, from the left: each by what stands before it, and by the fields behind it.
abbrev pub AreTaken : {S F P : Type 0} → (S → List F → F → P → Type 0) → (S → P → S) → S → List F → List P → Type 0
AreTaken Takes next s [] [] = Unit {0}
AreTaken Takes next s (f ∷ fs) (p ∷ ps) = Takes s fs f p × AreTaken Takes next (next s p) fs ps
AreTaken Takes next s fs ps = ⊥

-- The first of the fields that is refused is refused for this: those before it stand for parts.
abbrev pub IsRefusedIn : {S F P : Type 0} → (S → List F → F → P → Type 0) → (S → List F → F → LoadFault → Type 0)
    → (S → P → S) → S → List F → LoadFault → Type 0
IsRefusedIn Takes Refuses next s [] e = ⊥
IsRefusedIn {S} {F} {P} Takes Refuses next s (f ∷ fs) e = Refuses s fs f e ⊎ ((p : P) × Takes s fs f p × IsRefusedIn Takes Refuses next (next s p) fs e)

-- ---- global objects

-- a name comes behind the one before it, if there is one
abbrev pub IsBehind : Option Text → Text → Type 0
IsBehind None name = Unit {0}
IsBehind (Some before) name = name_cmp before name ≡ Less

-- The field is a function whose name comes behind the one before it.
pub record IsNextFunction (before : Option Text) (f : FunctionField) (w : Watched) : Type 0 where
  pub field : IsFunctionOf f w
  pub watched : IsWatched w
  pub behind : IsBehind before w.definition.header.name

abbrev pub TakesFunction : Option Text → List FunctionField → FunctionField → Watched → Type 0
TakesFunction before rest f w = IsNextFunction before f w

abbrev pub RefusesFunction : Option Text → List FunctionField → FunctionField → LoadFault → Type 0
RefusesFunction before rest f e = Unless ((w : Watched) × IsNextFunction before f w) fault.Definition Nothing e

abbrev pub function_after : Option Text → Watched → Option Text
function_after before w = Some w.definition.header.name

-- The field is a variable whose name comes behind the one before it, and is none of the functions'.
pub record IsNextVariable (functions : List Text) (before : Option Text) (f : VariableField) (v : Text × Arr) : Type 0 where
  pub field : IsVariableOf f v
  pub named : IsName v.0
  pub behind : IsBehind before v.0
  pub apart : ¬ Contains functions v.0

abbrev pub TakesVariable : List Text → Option Text → List VariableField → VariableField → Text × Arr → Type 0
TakesVariable functions before rest f v = IsNextVariable functions before f v

-- an array over the limits, elements that don't fit, and then the rules of names
abbrev pub RefusesVariable : List Text → Option Text → List VariableField → VariableField → LoadFault → Type 0
RefusesVariable functions before rest f e =
    Unless (IsSmall f.value) fault.Limit
    (Unless ((a : Arr) × IsArrayOf f.value a) fault.Array
    (Unless ((v : Text × Arr) × IsNextVariable functions before f v) fault.Definition Nothing)) e

abbrev pub variable_after : Option Text → Text × Arr → Option Text
variable_after before v = Some v.0

-- ---- contexts

-- what stands below a context: the one that it stands on, and how many calls and executes
pub record Below : Type 0 where
  pub below : Option ContextPart
  pub standing : ℕ

abbrev pub nothing_below : Below
nothing_below = record { below = None; standing = 0 }

abbrev pub context_after : Below → ContextPart → Below
context_after s c = record { below = Some c; standing = s.standing + counted c }

-- the locals, with their values
abbrev pub locals_in : ContextField → List LocalField
locals_in (fields.Call f) = f.locals
locals_in f = []

abbrev pub operands_of : Option RestField → List OperandField
operands_of None = []
operands_of (Some r) = r.operands

-- the operands of its line, where that awaits an answer
abbrev pub operands_in : ContextField → List OperandField
operands_in (fields.Statement f) = f.rest.operands
operands_in (fields.Call f) = operands_of f.rest
operands_in (fields.Execute f) = f.rest.operands

-- how many calls and executes a field is
abbrev pub counts : ContextField → ℕ
counts (fields.Statement f) = 0
counts (fields.Call f) = 1
counts (fields.Execute f) = 1

abbrev pub IsSmallLocal : LocalField → Type 0
IsSmallLocal l = IsSmallOption l.value

-- its arrays are within the limits, and it is at most the 256th call or execute
pub record AreSmall (standing : ℕ) (f : ContextField) : Type 0 where
  pub locals : AllByRecursion IsSmallLocal (locals_in f)
  pub operands : AllByRecursion IsSmallOperand (operands_in f)
  pub few : standing + counts f ≤ 256

abbrev pub IsValueOf : LocalField → Option Arr → Type 0
IsValueOf l value = BothOrNeither IsArrayOf l.value value

-- these are the values of its locals and its operands
pub record AreValues (f : ContextField) (values : List (Option Arr)) (operands : List Operand) : Type 0 where
  pub of_locals : Pairwise IsValueOf (locals_in f) values
  pub of_operands : Pairwise IsOperandOf (operands_in f) operands

-- a call has a definition
abbrev pub HasDefinition : ContextField → Type 0
HasDefinition (fields.Call f) = (d : Definition) × (IsDefinitionOf f.header f.lines d × IsDefined d)
HasDefinition f = Unit {0}

-- the same field with another listing of its line, where it has one
abbrev pub with_listing : List ℕ → RestField → RestField
with_listing listing r = record r { code = listing }

abbrev pub relisted_rest : List ℕ → Option RestField → Option RestField
relisted_rest listing None = None
relisted_rest listing (Some r) = Some (with_listing listing r)

abbrev pub relisted : List ℕ → ContextField → ContextField
relisted listing (fields.Statement f) = fields.Statement (record f { rest = with_listing listing f.rest })
relisted listing (fields.Call f) = fields.Call (record f { rest = relisted_rest listing f.rest })
relisted listing (fields.Execute f) = fields.Execute (record f { rest = with_listing listing f.rest })

-- The field is a context that keeps to the rules and stands on what is below it. The newest awaits no answer.
pub record IsNextContext (s : Below) (rest : List ContextField) (f : ContextField) (c : ContextPart) : Type 0 where
  pub field : IsContextOf f c
  pub context : IsContext c
  pub follows : Follows s.below c
  pub ends : rest ≡ [] → waiting_in c ≡ None

abbrev pub TakesContext : Below → List ContextField → ContextField → ContextPart → Type 0
TakesContext s rest f c = (s.standing + counted c ≤ 256) × IsNextContext s rest f c

-- Limits, elements that don't fit, a definition, then all rules of contexts but the listing, which with another one would be kept, and last the
-- listing.
abbrev pub RefusesContext : Below → List ContextField → ContextField → LoadFault → Type 0
RefusesContext s rest f e =
    Unless (AreSmall s.standing f) fault.Limit
    (Unless ((values : List (Option Arr)) × (operands : List Operand) × AreValues f values operands) fault.Array
    (Unless (HasDefinition f) fault.Definition
    (Unless ((listing : List ℕ) × (c : ContextPart) × IsNextContext s rest (relisted listing f) c) fault.Context
    (Unless ((c : ContextPart) × IsNextContext s rest f c) fault.Code Nothing)))) e

-- ---- files

abbrev pub AreFunctions : List FunctionField → List Watched → Type 0
AreFunctions fs ws = AreTaken TakesFunction function_after None fs ws

abbrev pub AreVariables : List Text → List VariableField → List (Text × Arr) → Type 0
AreVariables functions fs vs = AreTaken (TakesVariable functions) variable_after None fs vs

abbrev pub AreStacked : List ContextField → List ContextPart → Type 0
AreStacked fs cs = AreTaken TakesContext context_after nothing_below fs cs

-- The functions in order, then the variables, then the contexts, the oldest first: the first that is refused is refused for this.
abbrev pub IsRefused : File → LoadFault → Type 0
IsRefused f e =
    IsRefusedIn TakesFunction RefusesFunction function_after None f.functions e
    ⊎ ((ws : List Watched) × AreFunctions f.functions ws
    × (IsRefusedIn (TakesVariable (function_names ws)) (RefusesVariable (function_names ws)) variable_after None f.variables e
    ⊎ ((vs : List (Text × Arr)) × AreVariables (function_names ws) f.variables vs
    × IsRefusedIn TakesContext RefusesContext context_after nothing_below f.contexts e)))
