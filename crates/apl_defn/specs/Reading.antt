-- The header of a text, or its fault.
use Rattle.std.specs.Prelude.{◌≡◌, Bool, true, false, not, ◌&&◌, List, [], ◌∷◌, Option, Some, None, Result, Ok, Err, option_map, if◌then◌else◌}
use Rattle.std.specs.List.{list_any}
use Rattle.std.specs.Str.{bytes_eq}
use Rattle.apl_symbols.specs.declared.symbol.Symbol.TheVariants.{LeftArrow, Semicolon}
use Rattle.apl_symbols.specs.declared.system.SystemName.TheVariants.{Origin}
use Rattle.apl_tokens.specs.declared.token.Kind.{Kind}
use Rattle.apl_tokens.specs.declared.token.Kind.TheVariants.{Name, System, Symbol}
use Rattle.apl_tokens.specs.Tokens.{tokens_of, Answer}
use Rattle.apl_defn.specs.declared.error.DefnError.{DefnError}
use Rattle.apl_defn.specs.declared.error.DefnError.TheVariants as error
use Rattle.apl_defn.specs.declared.parts.Form.{Form}
use Rattle.apl_defn.specs.Definitions.{Text, Header}
use Rattle.apl_defn.specs.Headers.{kinds, origin, names_of}

-- the name that a token is
abbrev pub name_in : Kind → Option Text
name_in (Name name) = Some name
name_in kind = None

-- the name that tokens are
abbrev pub only_name : Answer → Option Text
only_name (Ok (token ∷ [])) = name_in token.kind
only_name tokens = None

-- the name that a text is, if it is one
abbrev pub name_of : Text → Option Text
name_of text = only_name (tokens_of text)

-- the local that a token is
abbrev pub local_in : Kind → Option Text
local_in (Name name) = Some name
local_in (System Origin) = Some origin
local_in kind = None

abbrev pub is_arrow : Kind → Bool
is_arrow (Symbol LeftArrow) = true
is_arrow kind = false

abbrev pub is_semicolon : Kind → Bool
is_semicolon (Symbol Semicolon) = true
is_semicolon kind = false

-- the result and what stands behind its arrow, if an arrow stands second, behind a name
abbrev pub with_result : Option Text → Bool → List Kind → List Kind → Option Text × List Kind
with_result (Some z) true behind all = (Some z, behind)
with_result name arrow behind all = (None, all)

-- the result, if there is one, and what stands behind it
unfoldable pub split_result : List Kind → Option Text × List Kind
split_result (k ∷ j ∷ ks) = with_result (name_in k) (is_arrow j) ks (k ∷ j ∷ ks)
split_result ks = (None, ks)

-- a function without arguments, with one, with two
abbrev pub niladic : Text → Form
niladic f = record { left = None; name = f; right = None }

abbrev pub monadic : Text → Text → Form
monadic f b = record { left = None; name = f; right = Some b }

abbrev pub dyadic : Text → Text → Text → Form
dyadic a f b = record { left = Some a; name = f; right = Some b }

-- behind two names a third one may stand
abbrev pub behind_two : Text → Text → Option Text → List Kind → List Kind → Form × List Kind
behind_two f b None behind all = (monadic f b, all)
behind_two a f (Some b) behind all = (dyadic a f b, behind)

abbrev pub after_two : Text → Text → List Kind → Form × List Kind
after_two f b [] = (monadic f b, [])
after_two f b (k ∷ ks) = behind_two f b (name_in k) ks (k ∷ ks)

-- behind one name a second one may stand
abbrev pub behind_one : Text → Option Text → List Kind → List Kind → Form × List Kind
behind_one f None behind all = (niladic f, all)
behind_one f (Some b) behind all = after_two f b behind

abbrev pub after_one : Text → List Kind → Form × List Kind
after_one f [] = (niladic f, [])
after_one f (k ∷ ks) = behind_one f (name_in k) ks (k ∷ ks)

-- the leading names, three at most, as a function with its arguments, and what stands behind them
unfoldable pub form_at : List Kind → Option (Form × List Kind)
form_at [] = None
form_at (k ∷ ks) = option_map (λ f. after_one f ks) (name_in k)

-- a local before others
abbrev pub local_before : Bool → Option Text → Option (List Text) → Option (List Text)
local_before true (Some word) (Some words) = Some (word ∷ words)
local_before semicolon word words = None

-- the locals, where there are locals and nothing else
abbrev pub locals_of : List Kind → Option (List Text)
locals_of [] = Some []
locals_of (k ∷ []) = None
locals_of (k ∷ j ∷ ks) = local_before (is_semicolon k) (local_in j) (locals_of ks)

-- a header by its parts
abbrev pub with_locals : Option Text → Form → Option (List Text) → Option Header
with_locals result form None = None
with_locals result form (Some words) = Some (record { result = result; left = form.left; name = form.name; right = form.right; locals = words })

abbrev pub with_form : Option Text → Option (Form × List Kind) → Option Header
with_form result None = None
with_form result (Some form) = with_locals result form.0 (locals_of form.1)

abbrev pub behind_result : Option Text × List Kind → Option Header
behind_result split = with_form split.0 (form_at split.1)

-- the header that tokens of these kinds write
unfoldable pub head_in : List Kind → Option Header
head_in ks = behind_result (split_result ks)

abbrev pub head_among : Answer → Option Header
head_among (Ok ts) = head_in (kinds ts)
head_among (Err e) = None

-- the header that the text is, where names may stand twice
unfoldable pub head_of : Text → Option Header
head_of text = head_among (tokens_of text)

-- no text stands twice
abbrev pub are_distinct : List Text → Bool
are_distinct [] = true
are_distinct (word ∷ words) = not (list_any (λ other. bytes_eq other word) words) && are_distinct words

-- a header is refused where a name stands twice
abbrev pub once : Option Header → Result Header DefnError
once None = Err error.Header
once (Some h) = if are_distinct (names_of h) then Ok h else Err error.Twice

-- the header of a text, or why it has none
unfoldable pub header_of : Text → Result Header DefnError
header_of text = once (head_of text)

-- what a function returned is the answer, unless memory ran out
abbrev pub Answers : {X : Type 0} → Result X DefnError → Result X DefnError → Type 0
Answers (Ok x) answer = answer ≡ Ok x
Answers (Err error.Memory) answer = Unit {0}
Answers (Err e) answer = answer ≡ Err e
