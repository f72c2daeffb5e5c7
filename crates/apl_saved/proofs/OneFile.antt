-- A workspace has one file of each version.
use Rattle.std.proofs.Common.{◌≡◌, ℕ, false, List, Option, Ok, sym, ap, ◌∙◌}
use Rattle.apl_charset.specs.Text.{IsLine}
use Rattle.apl_symbols.specs.declared.class.Class.{Class}
use Rattle.apl_tokens.specs.declared.token.Token.{Token}
use Rattle.apl_tokens.specs.Tokens.{tokens_of}
use Rattle.apl_arrays.specs.Cells.{Arr, Items}
use Rattle.apl_arrays.specs.Cells as cells
use Rattle.apl_listing.specs.Listing.{listed}
use Rattle.apl_translate.specs.Binding.{bound_of}
use Rattle.apl_translate.specs.Translation.{Translates}
use Rattle.apl_translate.proofs.OneCode.{one_code}
use Rattle.apl_defn.specs.Definitions.{Text, line_of}
use Rattle.apl_machine_state.specs.declared.operand.Operand.{Operand}
use Rattle.apl_machine_state.specs.declared.operand.Operand.TheVariants as operands
use Rattle.apl_parts.specs.declared.parts.ContextPart.{ContextPart}
use Rattle.apl_parts.specs.declared.parts.ContextPart.TheVariants as parts
use Rattle.apl_parts.specs.declared.parts.StatementPart.{StatementPart}
use Rattle.apl_parts.specs.Pieces.{Waiting, Standing, Watched}
use Rattle.apl_parts.specs.Workspaces.{Pieces}
use Rattle.apl_workspace_file.specs.declared.fields.File.{File}
use Rattle.apl_workspace_file.specs.declared.fields.FunctionField.{FunctionField}
use Rattle.apl_workspace_file.specs.declared.fields.VariableField.{VariableField}
use Rattle.apl_workspace_file.specs.declared.fields.ArrayField.{ArrayField}
use Rattle.apl_workspace_file.specs.declared.fields.Elements.{Elements}
use Rattle.apl_workspace_file.specs.declared.fields.Elements.TheVariants as elements
use Rattle.apl_workspace_file.specs.declared.fields.ContextField.{ContextField}
use Rattle.apl_workspace_file.specs.declared.fields.ContextField.TheVariants as fields
use Rattle.apl_workspace_file.specs.declared.fields.StatementField.{StatementField}
use Rattle.apl_workspace_file.specs.declared.fields.CallField.{CallField}
use Rattle.apl_workspace_file.specs.declared.fields.LocalField.{LocalField}
use Rattle.apl_workspace_file.specs.declared.fields.RestField.{RestField}
use Rattle.apl_workspace_file.specs.declared.fields.OperandField.{OperandField}
use Rattle.apl_workspace_file.specs.declared.fields.OperandField.TheVariants as stacked
use Rattle.apl_saved.specs.Spelled.{AreElements, BothOrNeither, IsArrayOf, IsCallOf, IsContextOf, IsFileOf, IsFunctionOf, IsListingOf, IsLocalOf, IsOperandOf, IsRestOf, IsStatementOf, IsVariableOf, Pairwise}
use Rattle.apl_saved.proofs.Pairs.{both_same, both_turned, pairs_same, pairs_turned, turned}

-- two lists of fields of the same items are one, and two fields that may be missing
fields_same : {A B : Type 0} (R : A → B → Type 0) → ((y : B) (x z : A) → R x y → R z y → x ≡ z) → (xs zs : List A) (ys : List B) → Pairwise R xs ys → Pairwise R zs ys → xs ≡ zs
fields_same R one xs zs ys h k = pairs_same (turned R) one ys xs zs (pairs_turned R xs ys h) (pairs_turned R zs ys k)

field_same : {A B : Type 0} (R : A → B → Type 0) → ((y : B) (x z : A) → R x y → R z y → x ≡ z) → (p : Option B) (o q : Option A) → BothOrNeither R o p → BothOrNeither R q p → o ≡ q
field_same R one p o q h k = both_same (turned R) one p o q (both_turned R o p h) (both_turned R q p k)

one_line : (text f g : List ℕ) → IsLine f text → IsLine g text → f ≡ g
one_line text f g h k = sym h.spelled ∙ k.spelled

-- ---- arrays

elements_one : (i : Items) (e f : Elements) → AreElements e i → AreElements f i → e ≡ f
elements_one (cells.Numbers ns) (elements.Numbers zs) (elements.Numbers ws) h k = ap elements.Numbers (h ∙ sym k)
elements_one (cells.Numbers ns) (elements.Numbers zs) (elements.Text t) h k = absurd k
elements_one (cells.Numbers ns) (elements.Text s) f h k = absurd h
elements_one (cells.Characters cs) (elements.Numbers zs) f h k = absurd h
elements_one (cells.Characters cs) (elements.Text s) (elements.Numbers ws) h k = absurd k
elements_one (cells.Characters cs) (elements.Text s) (elements.Text t) h k = ap elements.Text (one_line cs s t h k)

array_one : (a : Arr) (f g : ArrayField) → IsArrayOf f a → IsArrayOf g a → f ≡ g
array_one a f g h k =
    ap (λ s. record { shape = s; elements = f.elements }) (h.shape ∙ sym k.shape)
    ∙ ap (λ e. record { shape = g.shape; elements = e }) (elements_one a.items f.elements g.elements h.elements k.elements)

operand_one : (a : Operand) (f g : OperandField) → IsOperandOf f a → IsOperandOf g a → f ≡ g
operand_one (operands.Value a) (stacked.Array f) (stacked.Array g) h k = ap stacked.Array (array_one a f g h k)
operand_one (operands.Value a) (stacked.Array f) (stacked.Slots gs) h k = absurd k
operand_one (operands.Value a) (stacked.Slots fs) g h k = absurd h
operand_one (operands.Slots ss) (stacked.Array f) g h k = absurd h
operand_one (operands.Slots ss) (stacked.Slots fs) (stacked.Array g) h k = absurd k
operand_one (operands.Slots ss) (stacked.Slots fs) (stacked.Slots gs) h k = ap stacked.Slots (fields_same (BothOrNeither IsArrayOf) (field_same IsArrayOf array_one) fs gs ss h k)

-- ---- lines that await an answer

one_reading : (text : Text) (ts us : List Token) → tokens_of text ≡ Ok ts → tokens_of text ≡ Ok us → ts ≡ us
one_reading text ts us h k = let both = sym h ∙ k in cc

one_listing : (text : Text) (classes : List Class) (f g : List ℕ) → IsListingOf f text classes → IsListingOf g text classes → f ≡ g
one_listing text classes f g h k =
    let bound : (bound_of h.tokens classes).items ≡ (bound_of k.tokens classes).items = ap (λ ts. (bound_of ts classes).items) (one_reading text h.tokens k.tokens h.read k.read) in
    let here : Translates k.code false (bound_of h.tokens classes).items = rw bound k.translates in
    h.listed ∙ ap (listed 0) (one_code h.code k.code false (bound_of h.tokens classes).items h.translates here) ∙ sym k.listed

rest_one : (text : Text) (w : Waiting) (f g : RestField) → IsRestOf f text w → IsRestOf g text w → f ≡ g
rest_one text w f g h k =
    ap (λ cs. record { classes = cs; code = f.code; done = f.done; operands = f.operands }) (h.classes ∙ sym k.classes)
    ∙ ap (λ c. record { classes = g.classes; code = c; done = f.done; operands = f.operands }) (one_listing text w.classes f.code g.code h.code k.code)
    ∙ ap (λ n. record { classes = g.classes; code = g.code; done = n; operands = f.operands }) (h.done ∙ sym k.done)
    ∙ ap (λ os. record { classes = g.classes; code = g.code; done = g.done; operands = os }) (fields_same IsOperandOf operand_one f.operands g.operands w.operands h.operands k.operands)

-- ---- definitions and contexts

lines_one : (lines : List Text) (fs gs : List (List ℕ)) → Pairwise IsLine fs lines → Pairwise IsLine gs lines → fs ≡ gs
lines_one lines fs gs h k = fields_same IsLine one_line fs gs lines h k

local_one : (l : Text × Option Arr) (f g : LocalField) → IsLocalOf f l → IsLocalOf g l → f ≡ g
local_one l f g h k =
    ap (λ n. record { name = n; value = f.value }) (one_line l.0 f.name g.name h.name k.name)
    ∙ ap (λ v. record { name = g.name; value = v }) (field_same IsArrayOf array_one l.1 f.value g.value h.value k.value)

statement_one : (s : StatementPart) (f g : StatementField) → IsStatementOf f s → IsStatementOf g s → f ≡ g
statement_one s f g h k =
    ap (λ t. record { line = t; rest = f.rest }) (one_line s.text f.line g.line h.line k.line)
    ∙ ap (λ r. record { line = g.line; rest = r }) (rest_one s.text s.rest f.rest g.rest h.rest k.rest)

call_one : (c : Standing) (f g : CallField) → IsCallOf f c → IsCallOf g c → f ≡ g
call_one c f g h k =
    let text = line_of c.definition c.at in
    ap (λ n. record { at = n; header = f.header; lines = f.lines; locals = f.locals; rest = f.rest }) (h.at ∙ sym k.at)
    ∙ ap (λ t. record { at = g.at; header = t; lines = f.lines; locals = f.locals; rest = f.rest }) (one_line _ f.header g.header h.definition.header k.definition.header)
    ∙ ap (λ ls. record { at = g.at; header = g.header; lines = ls; locals = f.locals; rest = f.rest }) (lines_one c.definition.lines f.lines g.lines h.definition.lines k.definition.lines)
    ∙ ap (λ ls. record { at = g.at; header = g.header; lines = g.lines; locals = ls; rest = f.rest }) (fields_same IsLocalOf local_one f.locals g.locals c.locals h.locals k.locals)
    ∙ ap (λ r. record { at = g.at; header = g.header; lines = g.lines; locals = g.locals; rest = r }) (field_same (λ r w. IsRestOf r text w) (rest_one text) c.rest f.rest g.rest h.rest k.rest)

context_one : (c : ContextPart) (f g : ContextField) → IsContextOf f c → IsContextOf g c → f ≡ g
context_one (parts.Statement s) (fields.Statement f) (fields.Statement g) h k = ap fields.Statement (statement_one s f g h k)
context_one (parts.Statement s) (fields.Statement f) (fields.Call g) h k = absurd k
context_one (parts.Statement s) (fields.Statement f) (fields.Execute g) h k = absurd k
context_one (parts.Statement s) (fields.Call f) g h k = absurd h
context_one (parts.Statement s) (fields.Execute f) g h k = absurd h
context_one (parts.Call c) (fields.Statement f) g h k = absurd h
context_one (parts.Call c) (fields.Call f) (fields.Statement g) h k = absurd k
context_one (parts.Call c) (fields.Call f) (fields.Call g) h k = ap fields.Call (call_one c f g h k)
context_one (parts.Call c) (fields.Call f) (fields.Execute g) h k = absurd k
context_one (parts.Call c) (fields.Execute f) g h k = absurd h
context_one (parts.Execute s) (fields.Statement f) g h k = absurd h
context_one (parts.Execute s) (fields.Call f) g h k = absurd h
context_one (parts.Execute s) (fields.Execute f) (fields.Statement g) h k = absurd k
context_one (parts.Execute s) (fields.Execute f) (fields.Call g) h k = absurd k
context_one (parts.Execute s) (fields.Execute f) (fields.Execute g) h k = ap fields.Execute (statement_one s f g h k)

-- ---- workspaces

function_one : (w : Watched) (f g : FunctionField) → IsFunctionOf f w → IsFunctionOf g w → f ≡ g
function_one w f g h k =
    ap (λ t. record { header = t; lines = f.lines; stop = f.stop; trace = f.trace }) (one_line _ f.header g.header h.definition.header k.definition.header)
    ∙ ap (λ ls. record { header = g.header; lines = ls; stop = f.stop; trace = f.trace }) (lines_one w.definition.lines f.lines g.lines h.definition.lines k.definition.lines)
    ∙ ap (λ ns. record { header = g.header; lines = g.lines; stop = ns; trace = f.trace }) (h.stops ∙ sym k.stops)
    ∙ ap (λ ns. record { header = g.header; lines = g.lines; stop = g.stop; trace = ns }) (h.traces ∙ sym k.traces)

variable_one : (v : Text × Arr) (f g : VariableField) → IsVariableOf f v → IsVariableOf g v → f ≡ g
variable_one v f g h k =
    ap (λ n. record { name = n; value = f.value }) (one_line v.0 f.name g.name h.name k.name)
    ∙ ap (λ a. record { name = g.name; value = a }) (array_one v.1 f.value g.value h.value k.value)

pub one_file : (f g : File) (p : Pieces) → IsFileOf f p → IsFileOf g p → f.version ≡ g.version → f ≡ g
one_file f g p h k same =
    ap (λ v. record { version = v; functions = f.functions; variables = f.variables; origin = f.origin; contexts = f.contexts }) same
    ∙ ap (λ fs. record { version = g.version; functions = fs; variables = f.variables; origin = f.origin; contexts = f.contexts }) (fields_same IsFunctionOf function_one f.functions g.functions p.functions h.functions k.functions)
    ∙ ap (λ vs. record { version = g.version; functions = g.functions; variables = vs; origin = f.origin; contexts = f.contexts }) (fields_same IsVariableOf variable_one f.variables g.variables p.variables h.variables k.variables)
    ∙ ap (λ n. record { version = g.version; functions = g.functions; variables = g.variables; origin = n; contexts = f.contexts }) (h.origin ∙ sym k.origin)
    ∙ ap (λ cs. record { version = g.version; functions = g.functions; variables = g.variables; origin = g.origin; contexts = cs }) (fields_same IsContextOf context_one f.contexts g.contexts p.contexts h.contexts k.contexts)
