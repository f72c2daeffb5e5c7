-- A file that holds parts that keep to the rules is not refused, and holds no others.
use Rattle.std.proofs.Common.{◌≡◌, ◌≢◌, ◌⊎◌, inl, inr, ℕ, ◌+◌, ◌≤◌, List, [], ◌∷◌, length, map, Contains, Option, Some, None, Result, Ok, Err, IfOk, IfErr, MatchResult, refl, sym, ap, ◌∙◌, subst}
use Rattle.std.specs.List.{AllByRecursion}
use Rattle.apl_arrays.specs.Cells.{Arr}
use Rattle.apl_arrays.specs.Index.{bound_of}
use Rattle.apl_charset.proofs.Unique.{one_text}
use Rattle.apl_defn.specs.Definitions.{Text}
use Rattle.apl_machine_state.specs.declared.operand.Operand.{Operand}
use Rattle.apl_machine_state.specs.declared.operand.Operand.TheVariants as operands
use Rattle.apl_tokens.specs.Spelling.{IsName}
use Rattle.apl_parts.specs.declared.parts.ContextPart.{ContextPart}
use Rattle.apl_parts.specs.declared.parts.ContextPart.TheVariants as parts
use Rattle.apl_parts.specs.Pieces.{Waiting, Watched}
use Rattle.apl_parts.specs.Restored.{IsWatched, waiting_in}
use Rattle.apl_parts.specs.Workspaces.{Pieces}
use Rattle.apl_workspace_file.specs.declared.fields.File.{File}
use Rattle.apl_workspace_file.specs.declared.fields.ArrayField.{ArrayField}
use Rattle.apl_workspace_file.specs.declared.fields.FunctionField.{FunctionField}
use Rattle.apl_workspace_file.specs.declared.fields.VariableField.{VariableField}
use Rattle.apl_workspace_file.specs.declared.fields.ContextField.{ContextField}
use Rattle.apl_workspace_file.specs.declared.fields.ContextField.TheVariants as fields
use Rattle.apl_workspace_file.specs.declared.fields.LocalField.{LocalField}
use Rattle.apl_workspace_file.specs.declared.fields.OperandField.{OperandField}
use Rattle.apl_workspace_file.specs.declared.fields.OperandField.TheVariants as operand_fields
use Rattle.apl_workspace_file.specs.declared.fields.RestField.{RestField}
use Rattle.apl_saved.specs.Spelled.{BothOrNeither, IsArrayOf, IsContextOf, IsFileOf, IsFunctionOf, IsOperandOf, IsRestOf, IsVariableOf, Pairwise}
use Rattle.apl_saved.specs.Rules.{AreContexts, AreRuled, Ascend, IsContext, counted, function_names, variable_names}
use Rattle.apl_loading.specs.declared.error.LoadFault.{LoadFault}
use Rattle.apl_loading.specs.declared.error.LoadFault.TheVariants as fault
use Rattle.apl_loading.specs.inside.Held.{AreHeld}
use Rattle.apl_loading.specs.Small.{IsSmall, IsSmallOption, IsSmallOperand}
use Rattle.apl_loading.specs.Refusals.{AreFunctions, AreSmall, AreTaken, AreValues, AreVariables, Below, HasDefinition, IsBehind, IsNextContext, IsRefused, IsRefusedIn, IsSmallLocal, IsValueOf, RefusesContext, RefusesFunction, RefusesVariable, TakesContext, TakesFunction, TakesVariable, context_after, counts, function_after, locals_in, nothing_below, operands_in, operands_of, relisted, variable_after}
use Rattle.apl_loading.proofs.OneArray.{one_array}
use Rattle.apl_loading.proofs.OneContext.{by_all, same_context, valued_locals}
use Rattle.apl_loading.proofs.OneDefinition.{one_definition}
use Rattle.apl_loading.proofs.OneStep.{own, own_listed, relisted_again}

-- ---- lists

module _ {S F P : Type 0} (Takes : S → List F → F → P → Type 0) (Refuses : S → List F → F → LoadFault → Type 0) (next : S → P → S) (one : (s : S) (rest : List F) (f : F) (p q : P) → Takes s rest f p → Takes s rest f q → p ≡ q) where
  one_taken : (s : S) (fs : List F) (ps qs : List P) → AreTaken Takes next s fs ps → AreTaken Takes next s fs qs → ps ≡ qs
  one_taken s [] [] [] g h = refl
  one_taken s [] [] (q ∷ qs) g h = absurd h
  one_taken s [] (p ∷ ps) qs g h = absurd g
  one_taken s (f ∷ fs) [] qs g h = absurd g
  one_taken s (f ∷ fs) (p ∷ ps) [] g h = absurd h
  one_taken s (f ∷ fs) (p ∷ ps) (q ∷ qs) g h =
      let e : p ≡ q = one s fs f p q g.0 h.0 in
      ap (λ x. x ∷ ps) e ∙ ap (λ xs. q ∷ xs) (one_taken (next s q) fs ps qs (subst (λ x. AreTaken Takes next (next s x) fs ps) e g.1) h.1)

  taken_unrefused : ((s : S) (rest : List F) (f : F) (p : P) (e : LoadFault) → Takes s rest f p → ¬ Refuses s rest f e) → (s : S) (fs : List F) (ps : List P) (e : LoadFault) → AreTaken Takes next s fs ps → ¬ IsRefusedIn Takes Refuses next s fs e
  taken_unrefused un s [] ps e g h = absurd h
  taken_unrefused un s (f ∷ fs) [] e g h = absurd g
  taken_unrefused un s (f ∷ fs) (p ∷ ps) e g (inl r) = un s fs f p e g.0 r
  taken_unrefused un s (f ∷ fs) (p ∷ ps) e g (inr (q, t, r)) =
      let k : q ≡ p = one s fs f q p t g.0 in
      taken_unrefused un (next s p) fs ps e g.1 (subst (λ x. IsRefusedIn Takes Refuses next (next s x) fs e) k r)

-- ---- functions

one_function : (b : Option Text) (rest : List FunctionField) (f : FunctionField) (v w : Watched) → TakesFunction b rest f v → TakesFunction b rest f w → v ≡ w
one_function b rest f v w g h =
    let d : v.definition ≡ w.definition = one_definition f.header f.lines v.definition w.definition (g.field.definition, g.watched.defined) (h.field.definition, h.watched.defined) in
    let s : v.stops ≡ w.stops = sym g.field.stops ∙ h.field.stops in
    let t : v.traces ≡ w.traces = sym g.field.traces ∙ h.field.traces in
    λ k. record { definition = d k; stops = s k; traces = t k }

function_unrefused : (b : Option Text) (rest : List FunctionField) (f : FunctionField) (w : Watched) (e : LoadFault) → TakesFunction b rest f w → ¬ RefusesFunction b rest f e
function_unrefused b rest f w e t (inl h) = h.0 (w, t)
function_unrefused b rest f w e t (inr h) = absurd h.1

-- the names ascend, behind the one before
abbrev AscendBehind : Option Text → List Text → Type 0
AscendBehind None ns = Ascend ns
AscendBehind (Some b) ns = Ascend (b ∷ ns)

first_behind : (b : Option Text) (n : Text) (ns : List Text) → AscendBehind b (n ∷ ns) → IsBehind b n × Ascend (n ∷ ns)
first_behind None n ns h = (tt, h)
first_behind (Some b) n ns h = (h.0, h.1)

functions_taken : (b : Option Text) (fs : List FunctionField) (ws : List Watched) → Pairwise IsFunctionOf fs ws → AllByRecursion IsWatched ws → AscendBehind b (function_names ws) → AreTaken TakesFunction function_after b fs ws
functions_taken b [] [] g r a = tt
functions_taken b [] (w ∷ ws) g r a = absurd g
functions_taken b (f ∷ fs) [] g r a = absurd g
functions_taken b (f ∷ fs) (w ∷ ws) g r a =
    let n = first_behind b w.definition.header.name (function_names ws) a in
    (record { field = g.0; watched = r.0; behind = n.0 }, functions_taken (function_after b w) fs ws g.1 r.1 n.1)

-- ---- variables

one_variable : (ns : List Text) (b : Option Text) (rest : List VariableField) (f : VariableField) (v w : Text × Arr) → TakesVariable ns b rest f v → TakesVariable ns b rest f w → v ≡ w
one_variable ns b rest f v w g h =
    let n : v.0 ≡ w.0 = one_text f.name v.0 w.0 g.field.name h.field.name in
    let a : v.1 ≡ w.1 = one_array f.value v.1 w.1 g.field.value h.field.value in
    λ k. (n k, a k)

small_array : (f : ArrayField) (a : Arr) → IsArrayOf f a → IsSmall f
small_array f a h = (subst (λ s. length s ≤ 8) (sym h.shape) h.whole.few_axes, subst (λ s. bound_of s ≤ 1000000) (sym h.shape) h.whole.small)

variable_unrefused : (ns : List Text) (b : Option Text) (rest : List VariableField) (f : VariableField) (v : Text × Arr) (e : LoadFault) → TakesVariable ns b rest f v → ¬ RefusesVariable ns b rest f e
variable_unrefused ns b rest f v e t (inl h) = h.0 (small_array f.value v.1 t.field.value)
variable_unrefused ns b rest f v e t (inr (s, inl h)) = h.0 (v.1, t.field.value)
variable_unrefused ns b rest f v e t (inr (s, inr (a, inl h))) = h.0 (v, t)
variable_unrefused ns b rest f v e t (inr (s, inr (a, inr h))) = absurd h.1

variables_taken : (ns : List Text) (b : Option Text) (fs : List VariableField) (vs : List (Text × Arr)) → Pairwise IsVariableOf fs vs → AllByRecursion IsName (variable_names vs) → AllByRecursion (λ n. ¬ Contains ns n) (variable_names vs) → AscendBehind b (variable_names vs) → AreTaken (TakesVariable ns) variable_after b fs vs
variables_taken ns b [] [] g r o a = tt
variables_taken ns b [] (v ∷ vs) g r o a = absurd g
variables_taken ns b (f ∷ fs) [] g r o a = absurd g
variables_taken ns b (f ∷ fs) (v ∷ vs) g r o a =
    let n = first_behind b v.0 (variable_names vs) a in
    (record { field = g.0; named = r.0; behind = n.0; apart = o.0 }, variables_taken ns (variable_after b v) fs vs g.1 r.1 o.1 n.1)

-- ---- contexts

-- a field as it stands, under its own listing
own_field : (f : ContextField) (c : ContextPart) → IsContextOf f c → IsContextOf (relisted (own f) f) c
own_field f c g = subst (λ x. IsContextOf x c) (sym (relisted_again f (own f) (own_listed f))) g

one_next : (s : Below) (rest : List ContextField) (f : ContextField) (b c : ContextPart) → TakesContext s rest f b → TakesContext s rest f c → b ≡ c
one_next s rest f b c g h = same_context f (own f) (own f) b c (own_field f b g.1.field) g.1.context (own_field f c h.1.field) h.1.context

small_value : (f : Option ArrayField) (a : Option Arr) → BothOrNeither IsArrayOf f a → IsSmallOption f
small_value None a h = tt
small_value (Some f) None h = absurd h
small_value (Some f) (Some a) h = small_array f a h

small_slots : (fs : List (Option ArrayField)) (ss : List (Option Arr)) → Pairwise (BothOrNeither IsArrayOf) fs ss → AllByRecursion IsSmallOption fs
small_slots [] ss h = tt
small_slots (f ∷ fs) [] h = absurd h
small_slots (f ∷ fs) (s ∷ ss) h = (small_value f s h.0, small_slots fs ss h.1)

small_operand : (f : OperandField) (o : Operand) → IsOperandOf f o → IsSmallOperand f
small_operand (operand_fields.Array f) (operands.Value a) h = small_array f a h
small_operand (operand_fields.Array f) (operands.Slots ss) h = absurd h
small_operand (operand_fields.Slots fs) (operands.Slots ss) h = small_slots fs ss h
small_operand (operand_fields.Slots fs) (operands.Value a) h = absurd h

small_operands : (fs : List OperandField) (os : List Operand) → Pairwise IsOperandOf fs os → AllByRecursion IsSmallOperand fs
small_operands [] os h = tt
small_operands (f ∷ fs) [] h = absurd h
small_operands (f ∷ fs) (o ∷ os) h = (small_operand f o h.0, small_operands fs os h.1)

small_locals : (fs : List LocalField) (vs : List (Option Arr)) → Pairwise IsValueOf fs vs → AllByRecursion IsSmallLocal fs
small_locals [] vs h = tt
small_locals (f ∷ fs) [] h = absurd h
small_locals (f ∷ fs) (v ∷ vs) h = (small_value f.value v h.0, small_locals fs vs h.1)

-- the values and the operands of a context
pub record HasValues (f : ContextField) : Type 0 where
  pub values : List (Option Arr)
  pub operands : List Operand
  pub are : AreValues f values operands

rest_operands : (o : Option RestField) (text : Text) (rest : Option Waiting) → BothOrNeither (λ r w. IsRestOf r text w) o rest → (os : List Operand) × Pairwise IsOperandOf (operands_of o) os
rest_operands None text rest h = ([], tt)
rest_operands (Some r) text None h = absurd h
rest_operands (Some r) text (Some w) h = (w.operands, h.operands)

has_values : (f : ContextField) (c : ContextPart) → IsContextOf f c → HasValues f
has_values (fields.Statement f) (parts.Statement s) g = record { values = []; operands = s.rest.operands; are = record { of_locals = tt; of_operands = g.rest.operands } }
has_values (fields.Statement f) (parts.Call c) g = absurd g
has_values (fields.Statement f) (parts.Execute c) g = absurd g
has_values (fields.Execute f) (parts.Execute s) g = record { values = []; operands = s.rest.operands; are = record { of_locals = tt; of_operands = g.rest.operands } }
has_values (fields.Execute f) (parts.Call c) g = absurd g
has_values (fields.Execute f) (parts.Statement c) g = absurd g
has_values (fields.Call f) (parts.Call c) g =
    let o = rest_operands f.rest _ c.rest g.rest in
    record { values = map (λ l. l.1) c.locals; operands = o.0; are = record { of_locals = valued_locals f.locals c.locals g.locals; of_operands = o.1 } }
has_values (fields.Call f) (parts.Statement c) g = absurd g
has_values (fields.Call f) (parts.Execute c) g = absurd g

as_counted : (f : ContextField) (c : ContextPart) → IsContextOf f c → counts f ≡ counted c
as_counted (fields.Statement f) (parts.Statement c) g = refl
as_counted (fields.Statement f) (parts.Call c) g = absurd g
as_counted (fields.Statement f) (parts.Execute c) g = absurd g
as_counted (fields.Call f) (parts.Call c) g = refl
as_counted (fields.Call f) (parts.Statement c) g = absurd g
as_counted (fields.Call f) (parts.Execute c) g = absurd g
as_counted (fields.Execute f) (parts.Execute c) g = refl
as_counted (fields.Execute f) (parts.Call c) g = absurd g
as_counted (fields.Execute f) (parts.Statement c) g = absurd g

defined_field : (f : ContextField) (c : ContextPart) → IsContextOf f c → IsContext c → HasDefinition f
defined_field (fields.Statement f) c g r = tt
defined_field (fields.Execute f) c g r = tt
defined_field (fields.Call f) (parts.Call c) g r = (c.definition, (g.definition, r.defined))
defined_field (fields.Call f) (parts.Statement c) g r = absurd g
defined_field (fields.Call f) (parts.Execute c) g r = absurd g

small_context : (standing : ℕ) (f : ContextField) (c : ContextPart) → standing + counted c ≤ 256 → IsContextOf f c → AreSmall standing f
small_context standing f c le g =
    let v = has_values f c g in
    record {
      locals = small_locals (locals_in f) v.values v.are.of_locals;
      operands = small_operands (operands_in f) v.operands v.are.of_operands;
      few = subst (λ n. standing + n ≤ 256) (sym (as_counted f c g)) le;
    }

context_unrefused : (s : Below) (rest : List ContextField) (f : ContextField) (c : ContextPart) (e : LoadFault) → TakesContext s rest f c → ¬ RefusesContext s rest f e
context_unrefused s rest f c e t (inl h) = h.0 (small_context s.standing f c t.0 t.1.field)
context_unrefused s rest f c e t (inr (l, inl h)) = let v = has_values f c t.1.field in h.0 (v.values, v.operands, v.are)
context_unrefused s rest f c e t (inr (l, inr (v, inl h))) = h.0 (defined_field f c t.1.field t.1.context)
context_unrefused s rest f c e t (inr (l, inr (v, inr (d, inl h)))) = h.0 (own f, c, subst (λ x. IsNextContext s rest x c) (sym (relisted_again f (own f) (own_listed f))) t.1)
context_unrefused s rest f c e t (inr (l, inr (v, inr (d, inr (n, inl h))))) = h.0 (c, t.1)
context_unrefused s rest f c e t (inr (l, inr (v, inr (d, inr (n, inr h))))) = absurd h.1

-- the last one of contexts awaits no answer
last_ends : (below : Option ContextPart) (standing : ℕ) (c : ContextPart) (fs : List ContextField) (cs : List ContextPart) → Pairwise IsContextOf fs cs → AreContexts (Some c) standing cs → fs ≡ [] → waiting_in c ≡ None
last_ends below standing c [] [] g h e = h
last_ends below standing c [] (d ∷ ds) g h e = absurd g
last_ends below standing c (f ∷ fs) cs g h e = cc

contexts_taken : (s : Below) (fs : List ContextField) (cs : List ContextPart) → Pairwise IsContextOf fs cs → AreContexts s.below s.standing cs → AreTaken TakesContext context_after s fs cs
contexts_taken s [] [] g h = tt
contexts_taken s [] (c ∷ cs) g h = absurd g
contexts_taken s (f ∷ fs) [] g h = absurd g
contexts_taken s (f ∷ fs) (c ∷ cs) g h =
    ((h.0, record { field = g.0; context = h.2; follows = h.1; ends = last_ends s.below (s.standing + counted c) c fs cs g.1 h.3 }), contexts_taken (context_after s c) fs cs g.1 h.3)

-- ---- files

pub held_by : (f : File) (p : Pieces) → IsFileOf f p → AreRuled p → AreHeld f p
held_by f p g r = record {
  functions = functions_taken None f.functions p.functions g.functions (by_all IsWatched p.functions r.functions) r.functions_ascend;
  variables = variables_taken (function_names p.functions) None f.variables p.variables g.variables (by_all IsName (variable_names p.variables) r.variables) (by_all (λ n. ¬ Contains (function_names p.functions) n) (variable_names p.variables) r.apart) r.variables_ascend;
  origin = g.origin;
  contexts = contexts_taken nothing_below f.contexts p.contexts g.contexts r.contexts;
}

one_functions : (fs : List FunctionField) (ws xs : List Watched) → AreFunctions fs ws → AreFunctions fs xs → ws ≡ xs
one_functions fs ws xs g h = one_taken TakesFunction RefusesFunction function_after one_function None fs ws xs g h

one_variables : (ns : List Text) (fs : List VariableField) (vs ws : List (Text × Arr)) → AreVariables ns fs vs → AreVariables ns fs ws → vs ≡ ws
one_variables ns fs vs ws g h = one_taken (TakesVariable ns) (RefusesVariable ns) variable_after (one_variable ns) None fs vs ws g h

one_file : (f : File) (p q : Pieces) → AreHeld f p → AreHeld f q → p ≡ q
one_file f p q g h =
    let a : p.functions ≡ q.functions = one_functions f.functions p.functions q.functions g.functions h.functions in
    let b : p.variables ≡ q.variables = one_variables (function_names q.functions) f.variables p.variables q.variables (subst (λ ws. AreVariables (function_names ws) f.variables p.variables) a g.variables) h.variables in
    let o : p.origin ≡ q.origin = sym g.origin ∙ h.origin in
    let c : p.contexts ≡ q.contexts = one_taken TakesContext RefusesContext context_after one_next nothing_below f.contexts p.contexts q.contexts g.contexts h.contexts in
    λ k. record { functions = a k; variables = b k; origin = o k; contexts = c k }

unrefused : (f : File) (p : Pieces) (e : LoadFault) → AreHeld f p → ¬ IsRefused f e
unrefused f p e g (inl h) = taken_unrefused TakesFunction RefusesFunction function_after one_function function_unrefused None f.functions p.functions e g.functions h
unrefused f p e g (inr (ws, t, h)) =
    let k : ws ≡ p.functions = one_functions f.functions ws p.functions t g.functions in
    later (subst (λ xs. IsRefusedIn (TakesVariable (function_names xs)) (RefusesVariable (function_names xs)) variable_after None f.variables e ⊎ ((vs : List (Text × Arr)) × AreVariables (function_names xs) f.variables vs × IsRefusedIn TakesContext RefusesContext context_after nothing_below f.contexts e)) k h)
  where
    later : IsRefusedIn (TakesVariable (function_names p.functions)) (RefusesVariable (function_names p.functions)) variable_after None f.variables e ⊎ ((vs : List (Text × Arr)) × AreVariables (function_names p.functions) f.variables vs × IsRefusedIn TakesContext RefusesContext context_after nothing_below f.contexts e) → ⊥
    later (inl h) = taken_unrefused (TakesVariable (function_names p.functions)) (RefusesVariable (function_names p.functions)) variable_after (one_variable (function_names p.functions)) (variable_unrefused (function_names p.functions)) None f.variables p.variables e g.variables h
    later (inr (vs, u, h)) = taken_unrefused TakesContext RefusesContext context_after one_next context_unrefused nothing_below f.contexts p.contexts e g.contexts h

-- A file with parts gives these, unless memory runs out.
pub complete : (f : File) (r : Result Pieces LoadFault) (memory : (e : LoadFault) → (e ≡ fault.Memory) ⊎ (e ≢ fault.Memory)) → IfOk r (λ q. AreHeld f q) → IfErr r (λ e. e ≢ fault.Memory → IsRefused f e) → (p : Pieces) → AreHeld f p → MatchResult r (λ q. q ≡ p) (λ e. e ≡ fault.Memory)
complete f (Ok q) memory h g p k = one_file f q p h k
complete f (Err e) memory h g p k = pick (memory e)
  where
    pick : (e ≡ fault.Memory) ⊎ (e ≢ fault.Memory) → e ≡ fault.Memory
    pick (inl x) = x
    pick (inr x) = absurd (unrefused f p e k (g x))

pub memory : (e : LoadFault) → (e ≡ fault.Memory) ⊎ (e ≢ fault.Memory)
memory fault.Memory = inl refl
memory fault.Array = inr (λ h. cc)
memory fault.Definition = inr (λ h. cc)
memory fault.Context = inr (λ h. cc)
memory fault.Code = inr (λ h. cc)
memory fault.Limit = inr (λ h. cc)
