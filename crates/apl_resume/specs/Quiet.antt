-- Where neither ⎕STOP nor ⍎ stands.
use Rattle.std.specs.Prelude.{◌≡◌, ℕ, not, Bool, true, false, List, Option, Some, None, Ok, Err}
use Rattle.std.specs.List.{AllByRecursion}
use Rattle.apl_charset.specs.Decoding.{decoded}
use Rattle.apl_symbols.specs.declared.primitive.Primitive.{Primitive}
use Rattle.apl_symbols.specs.declared.primitive.Primitive.TheVariants.{Execute}
use Rattle.apl_symbols.specs.declared.symbol.Symbol.TheVariants as symbols
use Rattle.apl_symbols.specs.declared.system.SystemName.{SystemName}
use Rattle.apl_symbols.specs.declared.system.SystemName.TheVariants.{Stop}
use Rattle.apl_tokens.specs.declared.token.Kind.{Kind}
use Rattle.apl_tokens.specs.declared.token.Kind.TheVariants as kinds
use Rattle.apl_tokens.specs.declared.token.Token.{Token}
use Rattle.apl_tokens.specs.Tokens.{Answer, tokens_of}
use Rattle.apl_code.specs.declared.row.Function.{Function}
use Rattle.apl_code.specs.declared.row.Function.TheVariants as functions
use Rattle.apl_translate.specs.declared.form.Word.{Word}
use Rattle.apl_translate.specs.declared.form.Word.TheVariants as words
use Rattle.apl_defn.specs.Definitions.{Text, Definition}
use Rattle.apl_names.specs.declared.binding.Binding.{Binding}
use Rattle.apl_names.specs.declared.binding.Binding.TheVariants as bindings
use Rattle.apl_names.specs.Maps.{Map}
use Rattle.apl_machine_state.specs.Items.{Content, Reads, Item, Rest}
use Rattle.apl_machine_state.specs.Environment.{Context, Call, rest_of}
use Rattle.apl_machine_state.specs.State.{State, is_idle}
use Rattle.apl_session.specs.Events.{typed}
use Rattle.apl_resume.specs.Cut.{unstopped, IsQuietRun}

-- the primitive is ⍎
abbrev pub is_execute : Primitive → Bool
is_execute Execute = true
is_execute f = false

-- the system name is ⎕STOP
abbrev pub is_stop : SystemName → Bool
is_stop Stop = true
is_stop name = false

-- the token is neither; in a text and in a comment they may stand
abbrev pub is_clean_kind : Kind → Bool
is_clean_kind (kinds.System name) = not (is_stop name)
is_clean_kind (kinds.Symbol (symbols.Primitive f)) = not (is_execute f)
is_clean_kind kind = true

-- neither is among these tokens
abbrev pub AreCleanTokens : List Token → Type 0
AreCleanTokens tokens = AllByRecursion (λ t. is_clean_kind t.kind ≡ true) tokens

-- nor among those of a text, if it has any
abbrev pub AreCleanIfAny : Answer → Type 0
AreCleanIfAny (Ok tokens) = AreCleanTokens tokens
AreCleanIfAny (Err error) = Unit {0}

-- neither is a token of the text
abbrev pub IsCleanText : Text → Type 0
IsCleanText text = AreCleanIfAny (tokens_of text)

-- neither stands in a line of the function
abbrev pub IsCleanFunction : Definition → Type 0
IsCleanFunction d = AllByRecursion IsCleanText d.lines

-- what a name stands for is no function in which one of them stands
abbrev pub IsCleanBinding : Binding → Type 0
IsCleanBinding (bindings.Function d) = IsCleanFunction d
IsCleanBinding binding = Unit {0}

-- neither stands in a function of the map
abbrev pub IsCleanMap : Map → Type 0
IsCleanMap m = AllByRecursion (λ e. IsCleanBinding e.1) m

-- a function that a phrase takes is neither
abbrev pub is_clean_function : Function → Bool
is_clean_function (functions.Primitive f) = not (is_execute f)
is_clean_function (functions.Name name) = true
is_clean_function (functions.System name) = not (is_stop name)

-- the word is neither
abbrev pub is_clean_word : Word → Bool
is_clean_word (words.Function f) = is_clean_function f
is_clean_word word = true

-- the item is neither
abbrev pub is_clean_content : Content → Bool
is_clean_content (Reads word) = is_clean_word word
is_clean_content content = true

-- neither is among these items
abbrev pub AreClean : List Item → Type 0
AreClean items = AllByRecursion (λ i. is_clean_content i.content ≡ true) items

-- neither stands in what a line still has to do
abbrev pub IsCleanRest : Option Rest → Type 0
IsCleanRest None = Unit {0}
IsCleanRest (Some rest) = AreClean rest.items

-- nor in a function that a context has
abbrev pub IsCleanContext : Context → Type 0
IsCleanContext (Call d n locals rest) = IsCleanFunction d × IsCleanMap locals × IsCleanRest rest
IsCleanContext context = IsCleanRest (rest_of context)

-- the same of each context
abbrev pub AreCleanContexts : List Context → Type 0
AreCleanContexts contexts = AllByRecursion IsCleanContext contexts

-- Neither stands in a function, in a standing call's function, or in what is left of a line.
pub record IsClean (s : State) : Type 0 where
  pub globals : IsCleanMap s.world.globals
  pub contexts : AreCleanContexts s.contexts

-- neither is a token of a line of bytes, if it is a text
abbrev pub IsCleanLine : Option Text → Type 0
IsCleanLine None = Unit {0}
IsCleanLine (Some text) = IsCleanText text

-- In a state and a line in which neither stands no run reduces a phrase of ⎕STOP.
abbrev pub QuietWhereClean : Type 0
QuietWhereClean = (x : State) (line : List ℕ) (n : ℕ) → is_idle x ≡ true → IsClean x → IsCleanLine (decoded line) → IsQuietRun n (typed (unstopped x) line)
