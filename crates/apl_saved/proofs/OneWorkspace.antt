-- A file holds one workspace that keeps to the rules.
use Rattle.std.proofs.Common.{◌≡◌, ℕ, ◌+◌, List, [], ◌∷◌, All, Option, Some, None, Ok, refl, sym, ap, ◌∙◌, arith}
use Rattle.std.proofs.lemmas.List.Elements.{All-cons, All-nil}
use Rattle.apl_charset.specs.Text.{IsLine}
use Rattle.apl_charset.proofs.Unique.{one_text}
use Rattle.apl_symbols.specs.declared.class.Class.{Class}
use Rattle.apl_symbols.specs.declared.class.Class.TheVariants.{Variable, Niladic, Function}
use Rattle.apl_arrays.specs.Cells.{Arr, Items}
use Rattle.apl_arrays.specs.Cells as cells
use Rattle.apl_defn.specs.Definitions.{Text, Definition}
use Rattle.apl_defn.specs.Defining.{IsDefined, defined_of}
use Rattle.apl_defn.specs.Listing.{canonical}
use Rattle.apl_machine_state.specs.declared.operand.Operand.{Operand}
use Rattle.apl_machine_state.specs.declared.operand.Operand.TheVariants as operands
use Rattle.apl_parts.specs.declared.parts.ContextPart.{ContextPart}
use Rattle.apl_parts.specs.declared.parts.ContextPart.TheVariants as parts
use Rattle.apl_parts.specs.declared.parts.StatementPart.{StatementPart}
use Rattle.apl_parts.specs.Pieces.{Waiting, Standing, Watched}
use Rattle.apl_parts.specs.Restored.{IsWatched}
use Rattle.apl_parts.specs.Workspaces.{Pieces}
use Rattle.apl_workspace_file.specs.declared.fields.File.{File}
use Rattle.apl_workspace_file.specs.declared.fields.FunctionField.{FunctionField}
use Rattle.apl_workspace_file.specs.declared.fields.VariableField.{VariableField}
use Rattle.apl_workspace_file.specs.declared.fields.ArrayField.{ArrayField}
use Rattle.apl_workspace_file.specs.declared.fields.Elements.{Elements}
use Rattle.apl_workspace_file.specs.declared.fields.Elements.TheVariants as elements
use Rattle.apl_workspace_file.specs.declared.fields.ContextField.{ContextField}
use Rattle.apl_workspace_file.specs.declared.fields.ContextField.TheVariants as fields
use Rattle.apl_workspace_file.specs.declared.fields.StatementField.{StatementField}
use Rattle.apl_workspace_file.specs.declared.fields.CallField.{CallField}
use Rattle.apl_workspace_file.specs.declared.fields.LocalField.{LocalField}
use Rattle.apl_workspace_file.specs.declared.fields.RestField.{RestField}
use Rattle.apl_workspace_file.specs.declared.fields.OperandField.{OperandField}
use Rattle.apl_workspace_file.specs.declared.fields.OperandField.TheVariants as stacked
use Rattle.apl_saved.specs.Spelled.{AreElements, BothOrNeither, IsArrayOf, IsCallOf, IsContextOf, IsDefinitionOf, IsFileOf, IsFunctionOf, IsLocalOf, IsOperandOf, IsRestOf, IsStatementOf, IsVariableOf, letter_of, letters_of}
use Rattle.apl_saved.specs.Rules.{AreContexts, AreRuled, IsContext, counted}
use Rattle.apl_saved.proofs.Pairs.{both_cons, both_same, pairs_one, pairs_same}

-- a definition is that of its canonical header and its lines
abbrev pub AreAgain : Type 0
AreAgain = (d : Definition) → IsDefined d → defined_of (canonical d.header ∷ d.lines) ≡ Ok d

-- ---- arrays

one_elements : (e : Elements) (i j : Items) → AreElements e i → AreElements e j → i ≡ j
one_elements (elements.Numbers zs) (cells.Numbers ns) (cells.Numbers ms) h k = ap cells.Numbers (sym h ∙ k)
one_elements (elements.Numbers zs) (cells.Numbers ns) (cells.Characters ds) h k = absurd k
one_elements (elements.Numbers zs) (cells.Characters cs) j h k = absurd h
one_elements (elements.Text text) (cells.Numbers ns) j h k = absurd h
one_elements (elements.Text text) (cells.Characters cs) (cells.Numbers ms) h k = absurd k
one_elements (elements.Text text) (cells.Characters cs) (cells.Characters ds) h k = ap cells.Characters (one_text text cs ds h k)

pub one_array : (f : ArrayField) (a b : Arr) → IsArrayOf f a → IsArrayOf f b → a ≡ b
one_array f a b h k =
    ap (λ s. record { shape = s; items = a.items }) (sym h.shape ∙ k.shape)
    ∙ ap (λ i. record { shape = b.shape; items = i }) (one_elements f.elements a.items b.items h.elements k.elements)

one_operand : (f : OperandField) (a b : Operand) → IsOperandOf f a → IsOperandOf f b → a ≡ b
one_operand (stacked.Array f) (operands.Value a) (operands.Value b) h k = ap operands.Value (one_array f a b h k)
one_operand (stacked.Array f) (operands.Value a) (operands.Slots ts) h k = absurd k
one_operand (stacked.Array f) (operands.Slots ss) b h k = absurd h
one_operand (stacked.Slots fs) (operands.Value a) b h k = absurd h
one_operand (stacked.Slots fs) (operands.Slots ss) (operands.Value b) h k = absurd k
one_operand (stacked.Slots fs) (operands.Slots ss) (operands.Slots ts) h k = ap operands.Slots (pairs_same (BothOrNeither IsArrayOf) (both_same IsArrayOf one_array) fs ss ts h k)

-- ---- lines that await an answer

one_letter : (a b : Class) → letter_of a ≡ letter_of b → a ≡ b
one_letter Variable Variable e = refl
one_letter Variable Niladic e = absurd (omega arith)
one_letter Variable Function e = absurd (omega arith)
one_letter Niladic Variable e = absurd (omega arith)
one_letter Niladic Niladic e = refl
one_letter Niladic Function e = absurd (omega arith)
one_letter Function Variable e = absurd (omega arith)
one_letter Function Niladic e = absurd (omega arith)
one_letter Function Function e = refl

one_spelling : (cs ds : List Class) → letters_of cs ≡ letters_of ds → cs ≡ ds
one_spelling [] [] e = refl
one_spelling [] (d ∷ ds) e = absurd cc
one_spelling (c ∷ cs) [] e = absurd cc
one_spelling (c ∷ cs) (d ∷ ds) e =
    let first : letter_of c ≡ letter_of d = cc in
    let others : letters_of cs ≡ letters_of ds = cc in
    both_cons c d cs ds (one_letter c d first) (one_spelling cs ds others)

one_rest : (f : RestField) (s t : Text) (v w : Waiting) → IsRestOf f s v → IsRestOf f t w → v ≡ w
one_rest f s t v w h k =
    ap (λ cs. record { classes = cs; done = v.done; operands = v.operands }) (one_spelling v.classes w.classes (sym h.classes ∙ k.classes))
    ∙ ap (λ n. record { classes = w.classes; done = n; operands = v.operands }) (sym h.done ∙ k.done)
    ∙ ap (λ os. record { classes = w.classes; done = w.done; operands = os }) (pairs_same IsOperandOf one_operand f.operands v.operands w.operands h.operands k.operands)

one_rest_in : (o : Option RestField) (s t : Text) (v w : Option Waiting) → BothOrNeither (λ r x. IsRestOf r s x) o v → BothOrNeither (λ r x. IsRestOf r t x) o w → v ≡ w
one_rest_in None s t None None h k = refl
one_rest_in None s t None (Some w) h k = absurd k
one_rest_in None s t (Some v) w h k = absurd h
one_rest_in (Some r) s t None w h k = absurd h
one_rest_in (Some r) s t (Some v) None h k = absurd k
one_rest_in (Some r) s t (Some v) (Some w) h k = ap (λ x. Some x) (one_rest r s t v w h k)

-- ---- definitions and contexts

one_ok : (d e : Definition) (lines kin : List Text) → lines ≡ kin → defined_of lines ≡ Ok d → defined_of kin ≡ Ok e → d ≡ e
one_ok d e lines kin same p q = let both = sym p ∙ ap defined_of same ∙ q in cc

one_definition : AreAgain → (heading : List ℕ) (texts : List (List ℕ)) (d e : Definition) → IsDefinitionOf heading texts d → IsDefinitionOf heading texts e → IsDefined d → IsDefined e → d ≡ e
one_definition again heading texts d e h k p q =
    one_ok d e (canonical d.header ∷ d.lines) (canonical e.header ∷ e.lines)
    (both_cons (canonical d.header) (canonical e.header) d.lines e.lines (one_text heading (canonical d.header) (canonical e.header) h.header k.header) (pairs_same IsLine one_text texts d.lines e.lines h.lines k.lines))
    (again d p) (again e q)

one_local : (f : LocalField) (a b : Text × Option Arr) → IsLocalOf f a → IsLocalOf f b → a ≡ b
one_local f a b h k =
    ap (λ n. (n, a.1)) (one_text f.name a.0 b.0 h.name k.name)
    ∙ ap (λ o. (b.0, o)) (both_same IsArrayOf one_array f.value a.1 b.1 h.value k.value)

one_statement : (f : StatementField) (a b : StatementPart) → IsStatementOf f a → IsStatementOf f b → a ≡ b
one_statement f a b h k =
    ap (λ t. record { text = t; rest = a.rest }) (one_text f.line a.text b.text h.line k.line)
    ∙ ap (λ w. record { text = b.text; rest = w }) (one_rest f.rest a.text b.text a.rest b.rest h.rest k.rest)

one_call : AreAgain → (f : CallField) (a b : Standing) → IsCallOf f a → IsCallOf f b → IsDefined a.definition → IsDefined b.definition → a ≡ b
one_call again f a b h k p q =
    ap (λ d. record { definition = d; at = a.at; locals = a.locals; rest = a.rest }) (one_definition again f.header f.lines a.definition b.definition h.definition k.definition p q)
    ∙ ap (λ n. record { definition = b.definition; at = n; locals = a.locals; rest = a.rest }) (sym h.at ∙ k.at)
    ∙ ap (λ ls. record { definition = b.definition; at = b.at; locals = ls; rest = a.rest }) (pairs_same IsLocalOf one_local f.locals a.locals b.locals h.locals k.locals)
    ∙ ap (λ o. record { definition = b.definition; at = b.at; locals = b.locals; rest = o }) (one_rest_in f.rest _ _ a.rest b.rest h.rest k.rest)

one_context : AreAgain → (f : ContextField) (a b : ContextPart) → IsContextOf f a → IsContextOf f b → IsContext a → IsContext b → a ≡ b
one_context again (fields.Statement f) (parts.Statement a) (parts.Statement b) h k p q = ap parts.Statement (one_statement f a b h k)
one_context again (fields.Statement f) (parts.Statement a) (parts.Call b) h k p q = absurd k
one_context again (fields.Statement f) (parts.Statement a) (parts.Execute b) h k p q = absurd k
one_context again (fields.Statement f) (parts.Call a) b h k p q = absurd h
one_context again (fields.Statement f) (parts.Execute a) b h k p q = absurd h
one_context again (fields.Call f) (parts.Statement a) b h k p q = absurd h
one_context again (fields.Call f) (parts.Call a) (parts.Statement b) h k p q = absurd k
one_context again (fields.Call f) (parts.Call a) (parts.Call b) h k p q = ap parts.Call (one_call again f a b h k p.defined q.defined)
one_context again (fields.Call f) (parts.Call a) (parts.Execute b) h k p q = absurd k
one_context again (fields.Call f) (parts.Execute a) b h k p q = absurd h
one_context again (fields.Execute f) (parts.Statement a) b h k p q = absurd h
one_context again (fields.Execute f) (parts.Call a) b h k p q = absurd h
one_context again (fields.Execute f) (parts.Execute a) (parts.Statement b) h k p q = absurd k
one_context again (fields.Execute f) (parts.Execute a) (parts.Call b) h k p q = absurd k
one_context again (fields.Execute f) (parts.Execute a) (parts.Execute b) h k p q = ap parts.Execute (one_statement f a b h k)

each_context : (below : Option ContextPart) (standing : ℕ) (cs : List ContextPart) → AreContexts below standing cs → All IsContext cs
each_context below standing [] h = All-nil IsContext
each_context below standing (c ∷ cs) h = All-cons IsContext c cs h.2 (each_context (Some c) (standing + counted c) cs h.3)

-- ---- workspaces

one_function : AreAgain → (f : FunctionField) (a b : Watched) → IsFunctionOf f a → IsFunctionOf f b → IsWatched a → IsWatched b → a ≡ b
one_function again f a b h k p q =
    ap (λ d. record { definition = d; stops = a.stops; traces = a.traces }) (one_definition again f.header f.lines a.definition b.definition h.definition k.definition p.defined q.defined)
    ∙ ap (λ ns. record { definition = b.definition; stops = ns; traces = a.traces }) (sym h.stops ∙ k.stops)
    ∙ ap (λ ns. record { definition = b.definition; stops = b.stops; traces = ns }) (sym h.traces ∙ k.traces)

one_variable : (f : VariableField) (a b : Text × Arr) → IsVariableOf f a → IsVariableOf f b → a ≡ b
one_variable f a b h k =
    ap (λ n. (n, a.1)) (one_text f.name a.0 b.0 h.name k.name)
    ∙ ap (λ v. (b.0, v)) (one_array f.value a.1 b.1 h.value k.value)

pub one_workspace : AreAgain → (f : File) (p q : Pieces) → IsFileOf f p → IsFileOf f q → AreRuled p → AreRuled q → p ≡ q
one_workspace again f p q h k a b =
    ap (λ fs. record { functions = fs; variables = p.variables; origin = p.origin; contexts = p.contexts }) (pairs_one IsFunctionOf IsWatched (one_function again) f.functions p.functions q.functions h.functions k.functions a.functions b.functions)
    ∙ ap (λ vs. record { functions = q.functions; variables = vs; origin = p.origin; contexts = p.contexts }) (pairs_same IsVariableOf one_variable f.variables p.variables q.variables h.variables k.variables)
    ∙ ap (λ n. record { functions = q.functions; variables = q.variables; origin = n; contexts = p.contexts }) (sym h.origin ∙ k.origin)
    ∙ ap (λ cs. record { functions = q.functions; variables = q.variables; origin = q.origin; contexts = cs }) (pairs_one IsContextOf IsContext (one_context again) f.contexts p.contexts q.contexts h.contexts k.contexts (each_context None 0 p.contexts a.contexts) (each_context None 0 q.contexts b.contexts))
