-- The parts that are taken are those of the file, and keep to the rules.
use Rattle.std.proofs.Common.{◌≡◌, ◌≤◌, List, [], ◌∷◌, Contains, Option, Some, None, refl, arith}
use Rattle.std.specs.List.{AllByRecursion}
use Rattle.apl_arrays.specs.Cells.{Arr}
use Rattle.apl_defn.specs.Definitions.{Text}
use Rattle.apl_tokens.specs.Spelling.{IsName}
use Rattle.apl_parts.specs.declared.parts.ContextPart.{ContextPart}
use Rattle.apl_parts.specs.Pieces.{Watched}
use Rattle.apl_parts.specs.Restored.{IsWatched}
use Rattle.apl_parts.specs.Workspaces.{Pieces}
use Rattle.apl_workspace_file.specs.Fitting.{Fits}
use Rattle.apl_workspace_file.specs.declared.fields.File.{File}
use Rattle.apl_workspace_file.specs.declared.fields.FunctionField.{FunctionField}
use Rattle.apl_workspace_file.specs.declared.fields.VariableField.{VariableField}
use Rattle.apl_workspace_file.specs.declared.fields.ContextField.{ContextField}
use Rattle.apl_saved.specs.Spelled.{IsContextOf, IsFileOf, IsFunctionOf, IsVariableOf, Pairwise}
use Rattle.apl_saved.specs.Rules.{AreContexts, AreRuled, Ascend, Ends, function_names, variable_names}
use Rattle.apl_loading.specs.inside.Held.{AreHeld}
use Rattle.apl_loading.specs.Refusals.{AreTaken, Below, IsBehind, TakesContext, TakesFunction, TakesVariable, context_after, function_after, variable_after}
use Rattle.apl_loading.proofs.OneContext.{all_by}

-- ---- functions

functions_held : (b : Option Text) (fs : List FunctionField) (ws : List Watched) → AreTaken TakesFunction function_after b fs ws → Pairwise IsFunctionOf fs ws × AllByRecursion IsWatched ws
functions_held b [] [] h = (tt, tt)
functions_held b [] (w ∷ ws) h = absurd h
functions_held b (f ∷ fs) [] h = absurd h
functions_held b (f ∷ fs) (w ∷ ws) h = let i = functions_held (function_after b w) fs ws h.1 in ((h.0.field, i.0), (h.0.watched, i.1))

-- the name before, if there is one, and these
abbrev pub behind : Option Text → List Text → List Text
behind None ns = ns
behind (Some b) ns = b ∷ ns

ascends : (b : Option Text) (n : Text) (ns : List Text) → IsBehind b n → Ascend (n ∷ ns) → Ascend (behind b (n ∷ ns))
ascends None n ns h g = g
ascends (Some b) n ns h g = (h, g)

alone : (b : Option Text) → Ascend (behind b [])
alone None = tt
alone (Some b) = tt

pub functions_ascend : (b : Option Text) (fs : List FunctionField) (ws : List Watched) → AreTaken TakesFunction function_after b fs ws → Ascend (behind b (function_names ws))
functions_ascend b [] [] h = alone b
functions_ascend b [] (w ∷ ws) h = absurd h
functions_ascend b (f ∷ fs) [] h = absurd h
functions_ascend b (f ∷ fs) (w ∷ ws) h = ascends b w.definition.header.name (function_names ws) h.0.behind (functions_ascend (function_after b w) fs ws h.1)

-- ---- variables

variables_held : (ns : List Text) (b : Option Text) (fs : List VariableField) (vs : List (Text × Arr)) → AreTaken (TakesVariable ns) variable_after b fs vs → Pairwise IsVariableOf fs vs × AllByRecursion IsName (variable_names vs) × AllByRecursion (λ n. ¬ Contains ns n) (variable_names vs)
variables_held ns b [] [] h = (tt, tt, tt)
variables_held ns b [] (v ∷ vs) h = absurd h
variables_held ns b (f ∷ fs) [] h = absurd h
variables_held ns b (f ∷ fs) (v ∷ vs) h = let i = variables_held ns (variable_after b v) fs vs h.1 in ((h.0.field, i.0), (h.0.named, i.1), (h.0.apart, i.2))

variables_ascend : (ns : List Text) (b : Option Text) (fs : List VariableField) (vs : List (Text × Arr)) → AreTaken (TakesVariable ns) variable_after b fs vs → Ascend (behind b (variable_names vs))
variables_ascend ns b [] [] h = alone b
variables_ascend ns b [] (v ∷ vs) h = absurd h
variables_ascend ns b (f ∷ fs) [] h = absurd h
variables_ascend ns b (f ∷ fs) (v ∷ vs) h = ascends b v.0 (variable_names vs) h.0.behind (variables_ascend ns (variable_after b v) fs vs h.1)

-- ---- contexts

contexts_held : (s : Below) (fs : List ContextField) (cs : List ContextPart) → AreTaken TakesContext context_after s fs cs → Pairwise IsContextOf fs cs
contexts_held s [] [] h = tt
contexts_held s [] (c ∷ cs) h = absurd h
contexts_held s (f ∷ fs) [] h = absurd h
contexts_held s (f ∷ fs) (c ∷ cs) h = (h.0.1.field, contexts_held (context_after s c) fs cs h.1)

contexts_ruled : (s : Below) (fs : List ContextField) (cs : List ContextPart) → (fs ≡ [] → Ends s.below) → AreTaken TakesContext context_after s fs cs → AreContexts s.below s.standing cs
contexts_ruled s [] [] e h = e refl
contexts_ruled s [] (c ∷ cs) e h = absurd h
contexts_ruled s (f ∷ fs) [] e h = absurd h
contexts_ruled s (f ∷ fs) (c ∷ cs) e h = (h.0.0, h.0.1.follows, h.0.1.context, contexts_ruled (context_after s c) fs cs h.0.1.ends h.1)

-- ---- files

pub held : (f : File) (p : Pieces) → AreHeld f p → IsFileOf f p
held f p h = record {
  functions = (functions_held None f.functions p.functions h.functions).0;
  variables = (variables_held (function_names p.functions) None f.variables p.variables h.variables).0;
  origin = h.origin;
  contexts = contexts_held (record { below = None; standing = 0 }) f.contexts p.contexts h.contexts;
}

pub ruled : (f : File) (p : Pieces) → Fits f → AreHeld f p → AreRuled p
ruled f p fits h =
    let vs = variables_held (function_names p.functions) None f.variables p.variables h.variables in
    let o : p.origin ≤ 1 = omega (arith, fits.origin, h.origin) in
    record {
      origin = o;
      functions = all_by IsWatched p.functions (functions_held None f.functions p.functions h.functions).1;
      functions_ascend = functions_ascend None f.functions p.functions h.functions;
      variables = all_by IsName (variable_names p.variables) vs.1;
      variables_ascend = variables_ascend (function_names p.functions) None f.variables p.variables h.variables;
      apart = all_by (λ n. ¬ Contains (function_names p.functions) n) (variable_names p.variables) vs.2;
      contexts = contexts_ruled (record { below = None; standing = 0 }) f.contexts p.contexts (λ e. tt) h.contexts;
    }
