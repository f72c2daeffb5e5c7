-- For private clauses: what is made of a context, beside its part.
-- What is made so is the context that `Spelled` of the saved parts has for the field.
use Rattle.std.specs.Prelude.{◌≡◌, ℕ, ◌-◌, ◌<◌, ◌≤◌, Bool, true, List, [], ◌∷◌, length, map, reverse, take, Option, Some, None, Ok, slice_get}
use Rattle.std.specs.List.{AllByRecursion}
use Rattle.apl_arrays.specs.Cells.{Arr}
use Rattle.apl_charset.specs.Text.{IsLine}
use Rattle.apl_tokens.specs.declared.token.Token.{Token}
use Rattle.apl_tokens.specs.Kinds.{is_name}
use Rattle.apl_tokens.specs.Tokens.{tokens_of}
use Rattle.apl_defn.specs.Definitions.{Text, Definition, Header, is_line, line_of}
use Rattle.apl_defn.specs.Defining.{label_in}
use Rattle.apl_code.specs.declared.instr.Instr.{Instr}
use Rattle.apl_code.specs.declared.instr.Action.{Action}
use Rattle.apl_listing.specs.Kinds.{kinds}
use Rattle.apl_listing.specs.Listing.{listed}
use Rattle.apl_listing.specs.declared.stack.Kind.TheVariants as kind
use Rattle.apl_machine_state.specs.declared.operand.Operand.{Operand}
use Rattle.apl_symbols.specs.declared.class.Class.{Class}
use Rattle.apl_translate.specs.Binding.{names_of}
use Rattle.apl_parts.specs.declared.parts.ContextPart.{ContextPart}
use Rattle.apl_order.specs.Kept.{names_in}
use Rattle.apl_parts.specs.Pieces.{Waiting, Standing}
use Rattle.apl_parts.specs.Restored.{waiting_in}
use Rattle.apl_workspace_file.specs.declared.fields.ContextField.{ContextField}
use Rattle.apl_workspace_file.specs.declared.fields.ContextField.TheVariants as fields
use Rattle.apl_workspace_file.specs.declared.fields.StatementField.{StatementField}
use Rattle.apl_workspace_file.specs.declared.fields.CallField.{CallField}
use Rattle.apl_workspace_file.specs.declared.fields.LocalField.{LocalField}
use Rattle.apl_workspace_file.specs.declared.fields.RestField.{RestField}
use Rattle.apl_saved.specs.Spelled.{IsContextOf, Pairwise, letters_of}
use Rattle.apl_saved.specs.Rules.{Calls, IsContext, IsLocal, IsPendentLine, IsStatement, kind_of, text_of}
use Rattle.apl_loading.specs.Refusals.{Below, HasDefinition, Nothing, Unless, relisted}
use Rattle.apl_loading.specs.declared.error.LoadFault.{LoadFault}
use Rattle.apl_loading.specs.declared.error.LoadFault.TheVariants as fault

-- the tokens are some text's
abbrev pub AreOfText : List Token → Type 0
AreOfText tokens = (text : Text) × (tokens_of text ≡ Ok tokens)

-- a statement, or a text that is executed: a text in the set, whose tokens begin with no label
pub record IsStatementLine (field : List ℕ) (text : Text) (tokens : List Token) : Type 0 where
  pub line : IsLine field text
  pub read : tokens_of text ≡ Ok tokens
  pub unlabelled : label_in tokens ≡ None

abbrev pub is_named : Token → Bool
is_named t = is_name t.kind

-- these are the letters of classes, as many as the user names
abbrev pub AreClasses : List Token → List ℕ → List Class → Type 0
AreClasses tokens letters classes = (letters ≡ letters_of classes) × (length classes ≡ length (names_of tokens))

-- some instructions are done but not the last, and they leave these operands beneath a value
pub record HasStack (code : List Instr) (done : ℕ) (operands : List Operand) : Type 0 where
  pub begun : 1 ≤ done
  pub runs : done < length code
  pub stack : kinds [] (take done code) ≡ kind.Value ∷ reverse (map kind_of operands)

-- all fields but the listing, with these operands
pub record Agrees (f : RestField) (stack : List Operand) (w : Waiting) : Type 0 where
  pub classes : f.classes ≡ letters_of w.classes
  pub done : f.done ≡ w.done
  pub operands : w.operands ≡ stack

-- a line of these tokens awaits an answer by a field but for its listing
abbrev pub IsWaitingBy : List Token → RestField → List Operand → Waiting → Type 0
IsWaitingBy tokens f operands w = Agrees f operands w × ((code : List Instr) × IsPendentLine tokens w code)

-- this is its listing, and the last instruction that is done does this
pub record IsMade (tokens : List Token) (w : Waiting) (action : Action) (listing : List ℕ) : Type 0 where
  pub code : List Instr
  pub line : IsPendentLine tokens w code
  pub last : Instr
  pub is_last : slice_get code (w.done - 1) ≡ Some last
  pub acts : last.action ≡ action
  pub lists : listing ≡ listed 0 code

-- the same of a text
pub record IsMadeOf (text : Text) (w : Waiting) (action : Action) (listing : List ℕ) : Type 0 where
  pub tokens : List Token
  pub read : tokens_of text ≡ Ok tokens
  pub made : IsMade tokens w action listing

-- the same of a line that may await no answer
abbrev pub IsMadeIn : Text → Option Waiting → Option Action → List ℕ → Type 0
IsMadeIn text None None listing = Unit {0}
IsMadeIn text (Some w) (Some action) listing = IsMadeOf text w action listing
IsMadeIn text rest awaits listing = ⊥

-- The part of a field but for its listing, which would be this one, and what its last instruction does, where it awaits an answer.
pub record IsBuilt (f : ContextField) (c : ContextPart) (awaits : Option Action) (listing : List ℕ) : Type 0 where
  pub field : IsContextOf (relisted listing f) c
  pub context : IsContext c
  pub made : IsMadeIn (text_of c) (waiting_in c) awaits listing

-- what the context below awaits, if it awaits an answer: that calls what stands above, or above it stands a statement
abbrev pub Fits : Option Action → ContextPart → Type 0
Fits None above = IsStatement above
Fits (Some action) above = Calls action above

-- what the context below awaits
abbrev pub IsAwaited : Option Action → Option ContextPart → Type 0
IsAwaited awaits None = awaits ≡ None
IsAwaited awaits (Some c) = (listing : List ℕ) × IsMadeIn (text_of c) (waiting_in c) awaits listing

-- what stands below
pub record IsBelow (awaits : Option Action) (standing : ℕ) (s : Below) : Type 0 where
  pub awaited : IsAwaited awaits s.below
  pub count : s.standing ≡ standing

-- ---- locals of a call

abbrev pub IsNamedBy : LocalField → Text → Type 0
IsNamedBy f name = IsLine f.name name

-- These are the locals of a header, with these values, and a field for each.
pub record AreLocals (h : Header) (fs : List LocalField) (values : List (Option Arr)) (ls : List (Text × Option Arr)) : Type 0 where
  pub names : map (λ l. l.0) ls ≡ names_in h
  pub written : Pairwise IsNamedBy fs (names_in h)
  pub given : map (λ l. l.1) ls ≡ values
  pub locals : AllByRecursion IsLocal ls

-- ---- statements and calls

-- a statement, or a text that is executed, by a field but for its listing
pub record IsStatementBy (f : StatementField) (stack : List Operand) (text : Text) (w : Waiting) : Type 0 where
  pub tokens : List Token
  pub line : IsStatementLine f.line text tokens
  pub rest : IsWaitingBy tokens f.rest stack w

-- the rest of a line of these tokens, by a field but for its listing
abbrev pub IsRestBy : List Token → Option RestField → List Operand → Option Waiting → Type 0
IsRestBy tokens None stack None = Unit {0}
IsRestBy tokens (Some f) stack (Some w) = IsWaitingBy tokens f stack w
IsRestBy tokens f stack rest = ⊥

-- the same of the line of a text
abbrev pub IsRestOfLine : Text → Option RestField → List Operand → Option Waiting → Type 0
IsRestOfLine text None stack None = Unit {0}
IsRestOfLine text (Some f) stack (Some w) = (tokens : List Token) × (tokens_of text ≡ Ok tokens) × IsWaitingBy tokens f stack w
IsRestOfLine text f stack rest = ⊥

-- the same of what is made beside it
abbrev pub IsRestMade : List Token → Option Waiting → Option Action → List ℕ → Type 0
IsRestMade tokens None None listing = Unit {0}
IsRestMade tokens (Some w) (Some action) listing = IsMade tokens w action listing
IsRestMade tokens rest awaits listing = ⊥

-- a call of this definition, by a field but for its listing
pub record IsCallBy (d : Definition) (f : CallField) (values : List (Option Arr)) (stack : List Operand) (c : Standing) : Type 0 where
  pub definition : c.definition ≡ d
  pub at : c.at ≡ f.at
  pub at_line : is_line d f.at ≡ true
  pub locals : AreLocals d.header f.locals values c.locals
  pub rest : IsRestOfLine (line_of d f.at) f.rest stack c.rest

-- ---- contexts

-- it may stand above what awaits this, and it awaits an answer only where others stand behind it
abbrev pub MayStand : Option Action → List ContextField → ContextPart → Type 0
MayStand awaits behind c = Fits awaits c × (behind ≡ [] → waiting_in c ≡ None)

-- What is refused of a field alone: a definition, and then all rules but that of the listing.
abbrev pub RefusesPart : ContextField → LoadFault → Type 0
RefusesPart f e =
    Unless (HasDefinition f) fault.Definition
    (Unless ((listing : List ℕ) × (c : ContextPart) × IsContextOf (relisted listing f) c × IsContext c) fault.Context Nothing) e

abbrev pub IsListedRest : Option RestField → List ℕ → Type 0
IsListedRest None listing = Unit {0}
IsListedRest (Some f) listing = f.code ≡ listing

-- the listing of its line, where it awaits an answer, is this one
abbrev pub IsListed : ContextField → List ℕ → Type 0
IsListed (fields.Statement f) listing = f.rest.code ≡ listing
IsListed (fields.Call f) listing = IsListedRest f.rest listing
IsListed (fields.Execute f) listing = f.rest.code ≡ listing
