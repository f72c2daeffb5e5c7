-- A file of version 2 that holds parts which keep to the rules fits.
use Rattle.std.proofs.Common.{◌≡◌, ℕ, ℤ, pos, negsuc, ◌+◌, ◌*◌, ◌<◌, ◌≤◌, ◌^◌, ◌&&◌, max, nat_le, true, All, List, [], ◌∷◌, length, Option, Some, None, FitsSigned, refl, sym, subst, arith}
use Rattle.std.specs.Int.{w64}
use Rattle.std.proofs.lemmas.Int.{ints}
use Rattle.std.specs.List.{AllByRecursion}
use Rattle.std.proofs.lemmas.List.Elements.{All-head, All-tail}
use Rattle.apl_arrays.specs.Cells.{Arr, Items, AreStorable, IsArray}
use Rattle.apl_arrays.specs.Cells as cells
use Rattle.apl_arrays.specs.Index.{bound_of as shape_bound}
use Rattle.apl_arrays.proofs.Places.{bound_of-pos, mul_low}
use Rattle.apl_translate.specs.Binding.{bound_of}
use Rattle.apl_defn.specs.Definitions.{Text, line_of}
use Rattle.apl_defn.proofs.Limits.{few_lines}
use Rattle.apl_machine_state.specs.declared.operand.Operand.{Operand}
use Rattle.apl_machine_state.specs.declared.operand.Operand.TheVariants as operands
use Rattle.apl_order.specs.Kept.{AreAtMost}
use Rattle.apl_parts.specs.declared.parts.ContextPart.{ContextPart}
use Rattle.apl_parts.specs.declared.parts.ContextPart.TheVariants as parts
use Rattle.apl_parts.specs.declared.parts.StatementPart.{StatementPart}
use Rattle.apl_parts.specs.Pieces.{Waiting, Standing, Watched}
use Rattle.apl_parts.specs.Workspaces.{Pieces}
use Rattle.apl_parts.specs.Restored.{IsWatched}
use Rattle.apl_workspace_file.specs.Fitting.{Fits, FitsArray, FitsCall, FitsContext, FitsElements, FitsFunction, FitsLocal, FitsOperand, FitsOption, FitsRest, FitsStatement, FitsVariable, IsNumber, IsWhole, fits_version}
use Rattle.apl_workspace_file.specs.declared.fields.File.{File}
use Rattle.apl_workspace_file.specs.declared.fields.Version.{Version}
use Rattle.apl_workspace_file.specs.declared.fields.Version.TheVariants.{Two}
use Rattle.apl_workspace_file.specs.declared.fields.FunctionField.{FunctionField}
use Rattle.apl_workspace_file.specs.declared.fields.VariableField.{VariableField}
use Rattle.apl_workspace_file.specs.declared.fields.ArrayField.{ArrayField}
use Rattle.apl_workspace_file.specs.declared.fields.Elements.{Elements}
use Rattle.apl_workspace_file.specs.declared.fields.Elements.TheVariants as elements
use Rattle.apl_workspace_file.specs.declared.fields.ContextField.{ContextField}
use Rattle.apl_workspace_file.specs.declared.fields.ContextField.TheVariants as fields
use Rattle.apl_workspace_file.specs.declared.fields.StatementField.{StatementField}
use Rattle.apl_workspace_file.specs.declared.fields.CallField.{CallField}
use Rattle.apl_workspace_file.specs.declared.fields.LocalField.{LocalField}
use Rattle.apl_workspace_file.specs.declared.fields.RestField.{RestField}
use Rattle.apl_workspace_file.specs.declared.fields.OperandField.{OperandField}
use Rattle.apl_workspace_file.specs.declared.fields.OperandField.TheVariants as stacked
use Rattle.apl_saved.specs.Spelled.{AreElements, BothOrNeither, IsArrayOf, IsCallOf, IsContextOf, IsFileOf, IsFunctionOf, IsLocalOf, IsOperandOf, IsRestOf, IsStatementOf, IsVariableOf, Pairwise}
use Rattle.apl_saved.specs.Rules.{AreContexts, AreRuled, IsCall, IsContext, IsPendent, IsPendentIn, counted}
use Rattle.apl_savable.proofs.Fits.{code-few, line-fits}

-- what holds of the fields of items
pairs_fit : {A B : Type 0} (R : A → B → Type 0) (P : A → Type 0) → ((x : A) (y : B) → R x y → P x) → (xs : List A) (ys : List B) → Pairwise R xs ys → AllByRecursion P xs
pairs_fit R P one [] ys h = tt
pairs_fit R P one (x ∷ xs) [] h = absurd h
pairs_fit R P one (x ∷ xs) (y ∷ ys) h = (one x y h.0, pairs_fit R P one xs ys h.1)

good_fit : {A B : Type 0} (R : A → B → Type 0) (Q : B → Type 0) (P : A → Type 0) → ((x : A) (y : B) → R x y → Q y → P x) → (xs : List A) (ys : List B) → Pairwise R xs ys → All Q ys → AllByRecursion P xs
good_fit R Q P one [] ys h q = tt
good_fit R Q P one (x ∷ xs) [] h q = absurd h
good_fit R Q P one (x ∷ xs) (y ∷ ys) h q = (one x y h.0 (All-head Q y ys q), good_fit R Q P one xs ys h.1 (All-tail Q y ys q))

both_fit : {A B : Type 0} (R : A → B → Type 0) (P : A → Type 0) → ((x : A) (y : B) → R x y → P x) → (x : Option A) (y : Option B) → BothOrNeither R x y → FitsOption P x
both_fit R P one None y h = tt
both_fit R P one (Some x) None h = absurd h
both_fit R P one (Some x) (Some y) h = one x y h

-- ---- arrays

-- each axis of a shape within the limits is short
axes_fit : (shape : List ℕ) → shape_bound shape ≤ 1000000 → AllByRecursion IsWhole shape
axes_fit [] h = tt
axes_fit (n ∷ ns) h =
    let here : max n 1 ≤ max n 1 * shape_bound ns = mul_low (max n 1) (shape_bound ns) (bound_of-pos ns) in
    let behind : shape_bound ns ≤ shape_bound ns * max n 1 = mul_low (shape_bound ns) (max n 1) (omega arith) in
    (omega (arith, here), axes_fit ns (omega (arith, behind)))

number_fits : (z : ℤ) → FitsSigned w64 z → IsNumber z
number_fits (pos n) h = omega (arith, ints)
number_fits (negsuc n) h = omega (arith, ints)

numbers_fit : (zs : List ℤ) → All (λ z. FitsSigned w64 z) zs → AllByRecursion IsNumber zs
numbers_fit [] h = tt
numbers_fit (z ∷ zs) h = (number_fits z (All-head (λ y. FitsSigned w64 y) z zs h), numbers_fit zs (All-tail (λ y. FitsSigned w64 y) z zs h))

elements_fit : (e : Elements) (i : Items) → AreElements e i → AreStorable i → FitsElements e
elements_fit (elements.Text s) i h k = tt
elements_fit (elements.Numbers zs) (cells.Characters cs) h k = absurd h
elements_fit (elements.Numbers zs) (cells.Numbers ns) h k = subst (λ (ms : List ℤ). AllByRecursion IsNumber ms) (sym h) (numbers_fit ns k)

array_fits : (f : ArrayField) (a : Arr) → IsArrayOf f a → FitsArray f
array_fits f a h = (subst (λ (ns : List ℕ). AllByRecursion IsWhole ns) (sym h.shape) (axes_fit a.shape h.whole.small), elements_fit f.elements a.items h.elements h.whole.storable)

slot_fits : (f : Option ArrayField) (a : Option Arr) → BothOrNeither IsArrayOf f a → FitsOption FitsArray f
slot_fits f a h = both_fit IsArrayOf FitsArray array_fits f a h

operand_fits : (f : OperandField) (o : Operand) → IsOperandOf f o → FitsOperand f
operand_fits (stacked.Array f) (operands.Value a) h = array_fits f a h
operand_fits (stacked.Array f) (operands.Slots slots) h = absurd h
operand_fits (stacked.Slots fs) (operands.Value a) h = absurd h
operand_fits (stacked.Slots fs) (operands.Slots slots) h = pairs_fit (BothOrNeither IsArrayOf) (FitsOption FitsArray) slot_fits fs slots h

-- ---- lines that await an answer

rest_fits : (text : Text) (f : RestField) (w : Waiting) → IsRestOf f text w → IsPendent text w → FitsRest f
rest_fits text f w h k =
    let line = bound_of k.tokens w.classes in
    let few : length k.code ≤ 1000 = code-few k.code line.items line.constants (line-fits text k.tokens w.classes k.read) k.line.translates in
    let short : w.done < 2 ^ 63 = omega (arith, few, k.line.runs) in
    (subst (λ (n : ℕ). IsWhole n) (sym h.done) short, pairs_fit IsOperandOf FitsOperand operand_fits f.operands w.operands h.operands)

-- ---- contexts

statement_fits : (f : StatementField) (s : StatementPart) → IsStatementOf f s → IsPendent s.text s.rest → FitsStatement f
statement_fits f s h k = rest_fits s.text f.rest s.rest h.rest k

local_fits : (f : LocalField) (l : Text × Option Arr) → IsLocalOf f l → FitsLocal f
local_fits f l h = slot_fits f.value l.1 h.value

rest_in_fits : (text : Text) (f : Option RestField) (w : Option Waiting) → BothOrNeither (λ r v. IsRestOf r text v) f w → IsPendentIn text w → FitsOption FitsRest f
rest_in_fits text None w h k = tt
rest_in_fits text (Some f) None h k = absurd h
rest_in_fits text (Some f) (Some w) h k = rest_fits text f w h k

line_within : (n m : ℕ) → nat_le 1 n && nat_le n m ≡ true → n ≤ m
line_within n m h = grind arith

call_fits : (f : CallField) (c : Standing) → IsCallOf f c → IsCall c → FitsCall f
call_fits f c h k =
    let few : length c.definition.lines ≤ 999 = few_lines c.definition k.defined in
    let within : c.at ≤ length c.definition.lines = line_within c.at (length c.definition.lines) k.at_line in
    let short : c.at < 2 ^ 63 = omega (arith, few, within) in
    (subst (λ (n : ℕ). IsWhole n) (sym h.at) short, pairs_fit IsLocalOf FitsLocal local_fits f.locals c.locals h.locals, rest_in_fits (line_of c.definition c.at) f.rest c.rest h.rest k.rest)

context_fits : (f : ContextField) (c : ContextPart) → IsContextOf f c → IsContext c → FitsContext f
context_fits (fields.Statement f) (parts.Statement s) h k = statement_fits f s h k.1
context_fits (fields.Statement f) (parts.Call c) h k = absurd h
context_fits (fields.Statement f) (parts.Execute s) h k = absurd h
context_fits (fields.Call f) (parts.Statement s) h k = absurd h
context_fits (fields.Call f) (parts.Call c) h k = call_fits f c h k
context_fits (fields.Call f) (parts.Execute s) h k = absurd h
context_fits (fields.Execute f) (parts.Statement s) h k = absurd h
context_fits (fields.Execute f) (parts.Call c) h k = absurd h
context_fits (fields.Execute f) (parts.Execute s) h k = statement_fits f s h k.1

contexts_fit : (below : Option ContextPart) (standing : ℕ) (fs : List ContextField) (cs : List ContextPart) → Pairwise IsContextOf fs cs → AreContexts below standing cs → AllByRecursion FitsContext fs
contexts_fit below standing [] cs h k = tt
contexts_fit below standing (f ∷ fs) [] h k = absurd h
contexts_fit below standing (f ∷ fs) (c ∷ cs) h k = (context_fits f c h.0 k.2, contexts_fit (Some c) (standing + counted c) fs cs h.1 k.3)

-- ---- global objects

lines_fit : (most : ℕ) (lines : List ℕ) → most ≤ 999 → AreAtMost most lines → AllByRecursion IsWhole lines
lines_fit most [] few h = tt
lines_fit most (n ∷ ns) few h = (omega (arith, h.0), lines_fit most ns few h.1)

function_fits : (f : FunctionField) (w : Watched) → IsFunctionOf f w → IsWatched w → FitsFunction f
function_fits f w h k =
    let few : length w.definition.lines ≤ 999 = few_lines w.definition k.defined in
    let all = λ (lines : List ℕ). AllByRecursion IsWhole lines in
    (subst all (sym h.stops) (lines_fit _ w.stops few k.stops.1), subst all (sym h.traces) (lines_fit _ w.traces few k.traces.1))

variable_fits : (f : VariableField) (v : Text × Arr) → IsVariableOf f v → FitsVariable f
variable_fits f v h = array_fits f.value v.1 h.value

-- ---- files

version_fits : (v : Version) (cs : List ContextField) → v ≡ Two → fits_version v cs ≡ true
version_fits v cs e = subst (λ (u : Version). fits_version u cs ≡ true) (sym e) refl

pub file_fits : (f : File) (p : Pieces) → IsFileOf f p → AreRuled p → f.version ≡ Two → Fits f
file_fits f p h k e = record {
  version = version_fits f.version f.contexts e;
  origin = omega (arith, k.origin, h.origin);
  contexts = contexts_fit None 0 f.contexts p.contexts h.contexts k.contexts;
  functions = good_fit IsFunctionOf IsWatched FitsFunction function_fits f.functions p.functions h.functions k.functions;
  variables = pairs_fit IsVariableOf FitsVariable variable_fits f.variables p.variables h.variables;
}
