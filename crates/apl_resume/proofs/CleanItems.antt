-- Where neither ⎕STOP nor ⍎ stands among tokens or items, it stands in nothing that is made of them.
use Rattle.std.proofs.Common.{◌≡◌, ℕ, zero, suc, List, [], ◌∷◌, ◌++◌, Bool, true, false, Option, Some, None, refl, sym, subst, take, drop}
use Rattle.std.specs.Prelude.{if◌then◌else◌, not, ◌&&◌, map, option_map, slice_get, unwrap_or, Ok, Err}
use Rattle.std.specs.List.{AllByRecursion}
use Rattle.apl_arrays.specs.Cells.{Arr}
use Rattle.apl_symbols.specs.Primitives.{operator_of}
use Rattle.apl_symbols.specs.declared.class.Class.{Class}
use Rattle.apl_symbols.specs.declared.class.Class.TheVariants as classes
use Rattle.apl_symbols.specs.declared.primitive.Primitive.{Primitive}
use Rattle.apl_symbols.specs.declared.primitive.Operator.{Operator}
use Rattle.apl_symbols.specs.declared.symbol.Symbol.{Symbol}
use Rattle.apl_symbols.specs.declared.symbol.Symbol.TheVariants as symbols
use Rattle.apl_symbols.specs.declared.system.SystemName.{SystemName}
use Rattle.apl_symbols.specs.declared.system.SystemName.TheVariants.{Origin, LineCounter}
use Rattle.apl_tokens.specs.declared.token.Kind.{Kind}
use Rattle.apl_tokens.specs.declared.token.Kind.TheVariants as kinds
use Rattle.apl_tokens.specs.declared.token.Token.{Token}
use Rattle.apl_tokens.specs.Brackets.{unmatched}
use Rattle.apl_tokens.specs.Kinds.{is_colon, is_name}
use Rattle.apl_tokens.specs.Tokens.{Answer, pieces_of, tokens_of}
use Rattle.apl_code.specs.declared.row.Row.{Row}
use Rattle.apl_translate.specs.declared.form.Word.TheVariants as words
use Rattle.apl_translate.specs.declared.form.Form.{Form}
use Rattle.apl_translate.specs.declared.form.Form.TheVariants as forms
use Rattle.apl_translate.specs.declared.form.Placed.{Placed}
use Rattle.apl_translate.specs.Phrase.{width}
use Rattle.apl_translate.specs.Binding.{Left, nothing_left, without_label, class_at, name_word, system_word, primitive_word, closing, symbol_word, form_of, neighbour_of, with_item, placed, items_from, bound_of, names_of}
use Rattle.apl_translate.specs.Lines.{Line}
use Rattle.apl_defn.specs.Definitions.{Text, Definition, line_of}
use Rattle.apl_machine_state.specs.Items.{Content, Awaited, Item, filled, filled_by, replaced, content_of, item_of, fresh}
use Rattle.apl_machine_state.specs.Environment.{World, Context, class_of}
use Rattle.apl_machine_state.specs.Calls.{begun_of}
use Rattle.apl_resume.specs.Quiet.{is_execute, is_stop, is_clean_kind, AreCleanTokens, AreCleanIfAny, IsCleanText, IsCleanFunction, is_clean_word, is_clean_content, AreClean, IsCleanRest}

-- what holds of each element
pub all-append : {X : Type 0} (P : X → Type 0) (xs ys : List X) → AllByRecursion P xs → AllByRecursion P ys → AllByRecursion P (xs ++ ys)
all-append P [] ys h k = k
all-append P (x ∷ xs) ys h k = (h.0, all-append P xs ys h.1 k)

pub all-take : {X : Type 0} (P : X → Type 0) (n : ℕ) (xs : List X) → AllByRecursion P xs → AllByRecursion P (take n xs)
all-take P zero xs h = tt
all-take P (suc n) [] h = tt
all-take P (suc n) (x ∷ xs) h = (h.0, all-take P n xs h.1)

pub all-drop : {X : Type 0} (P : X → Type 0) (n : ℕ) (xs : List X) → AllByRecursion P xs → AllByRecursion P (drop n xs)
all-drop P zero xs h = h
all-drop P (suc n) [] h = tt
all-drop P (suc n) (x ∷ xs) h = all-drop P n xs h.1

-- what a phrase leaves
abbrev IsCleanItem : Item → Type 0
IsCleanItem item = is_clean_content item.content ≡ true

pub replaced-clean : (n : ℕ) (r : Row) (content : Content) (items : List Item) → is_clean_content content ≡ true → AreClean items → AreClean (replaced n r content items)
replaced-clean n r content items f h =
    all-append IsCleanItem (take n items) _ (all-take IsCleanItem n items h) (f, all-drop IsCleanItem (width r) (drop n items) (all-drop IsCleanItem n items h))

-- what an answer leaves
content-filled : (a : Arr) (content : Content) → is_clean_content content ≡ true → is_clean_content (filled_by a content) ≡ true
content-filled a Awaited h = refl
content-filled a content h = h

pub filled-clean : (a : Arr) (items : List Item) → AreClean items → AreClean (filled a items)
filled-clean a [] h = tt
filled-clean a (item ∷ items) h = (content-filled a item.content h.0, filled-clean a items h.1)

-- what a token is bound to
abbrev is_clean_form : Form → Bool
is_clean_form (forms.Word w) = is_clean_word w
is_clean_form form = true

abbrev IsCleanPlaced : Placed → Type 0
IsCleanPlaced p = is_clean_form p.form ≡ true

abbrev IsCleanForm : Option Form → Type 0
IsCleanForm None = Unit {0}
IsCleanForm (Some form) = is_clean_form form ≡ true

name-clean : (class : Class) (name : List ℕ) → is_clean_word (name_word class name) ≡ true
name-clean classes.Variable name = refl
name-clean classes.Niladic name = refl
name-clean classes.Function name = refl

system-clean : (name : SystemName) → not (is_stop name) ≡ true → is_clean_word (system_word name) ≡ true
system-clean Origin h = refl
system-clean LineCounter h = refl
system-clean name h = h

-- where an item stands left
primitive-behind : (before : Form) (f : Primitive) (m : Option Operator) → not (is_execute f) ≡ true → is_clean_word (primitive_word (neighbour_of before) f m) ≡ true
primitive-behind (forms.Word (words.Function g)) f (Some m) h = refl
primitive-behind before f m h = h

-- What stands left of an item is another item, or nothing, which counts as a value.
abbrev IsBehind : Left → Type 0
IsBehind left = (before : Form) × (left.neighbour ≡ neighbour_of before)

primitive-clean : (left : Left) (f : Primitive) (m : Option Operator) → IsBehind left → not (is_execute f) ≡ true → is_clean_word (primitive_word left.neighbour f m) ≡ true
primitive-clean left f m b h = subst (λ n. is_clean_word (primitive_word n f m) ≡ true) (sym b.1) (primitive-behind b.0 f m h)

item-behind : (left : Left) (kind : Kind) (form : Option Form) → IsBehind left → IsBehind (with_item left kind form)
item-behind left kind None b = b
item-behind left kind (Some form) b = (form, refl)

closing-clean : (axes : List Bool) → is_clean_word (closing axes) ≡ true
closing-clean [] = refl
closing-clean (true ∷ axes) = refl
closing-clean (false ∷ axes) = refl

symbol-clean : (left : Left) (symbol : Symbol) → IsBehind left → is_clean_kind (kinds.Symbol symbol) ≡ true → IsCleanForm (option_map forms.Word (symbol_word left symbol))
symbol-clean left (symbols.Primitive f) b h = primitive-clean left f (operator_of f) b h
symbol-clean left symbols.CloseBracket b h = closing-clean left.axes
symbol-clean left symbols.Colon b h = tt
symbol-clean left symbol b h = refl

form-clean : (given : List Class) (left : Left) (kind : Kind) → IsBehind left → is_clean_kind kind ≡ true → IsCleanForm (form_of given left kind)
form-clean given left (kinds.Constant numbers) b h = refl
form-clean given left (kinds.Text text) b h = refl
form-clean given left (kinds.Name name) b h = name-clean (class_at given left.names) name
form-clean given left (kinds.System name) b h = system-clean name h
form-clean given left (kinds.Symbol symbol) b h = symbol-clean left symbol b h
form-clean given left (kinds.Comment text) b h = tt

placed-clean : (form : Option Form) (column : ℕ) → IsCleanForm form → AllByRecursion IsCleanPlaced (placed form column)
placed-clean None column h = tt
placed-clean (Some form) column h = (h, tt)

items-clean : (given : List Class) (left : Left) (ts : List Token) → IsBehind left → AreCleanTokens ts → AllByRecursion IsCleanPlaced (items_from given left ts)
items-clean given left [] b h = tt
items-clean given left (t ∷ ts) b h =
    all-append IsCleanPlaced (placed (form_of given left t.kind) t.at) _
    (placed-clean (form_of given left t.kind) t.at (form-clean given left t.kind b h.0))
    (items-clean given (with_item left t.kind (form_of given left t.kind)) ts (item-behind left t.kind (form_of given left t.kind) b) h.1)

tokens-if : (b : Bool) (ts us : List Token) → AreCleanTokens ts → AreCleanTokens us → AreCleanTokens (if b then ts else us)
tokens-if true ts us h k = h
tokens-if false ts us h k = k

label-clean : (ts : List Token) → AreCleanTokens ts → AreCleanTokens (without_label ts)
label-clean [] h = tt
label-clean (t ∷ []) h = h
label-clean (t ∷ u ∷ ts) h = tokens-if (is_name t.kind && is_colon u.kind) ts (t ∷ u ∷ ts) h.1.1 h

bound-clean : (ts : List Token) (given : List Class) → AreCleanTokens ts → AllByRecursion IsCleanPlaced (bound_of ts given).items
unfolding bound_of
bound-clean ts given h = items-clean given nothing_left (without_label ts) (forms.Given, refl) (label-clean ts h)

content-clean : (constants : List Arr) (form : Form) → is_clean_form form ≡ true → is_clean_content (content_of constants form) ≡ true
content-clean constants (forms.Constant k) h = refl
content-clean constants (forms.Word w) h = h
content-clean constants forms.Given h = refl
content-clean constants forms.Slots h = refl

contents-clean : (constants : List Arr) (ps : List Placed) → AllByRecursion IsCleanPlaced ps → AreClean (map (item_of constants) ps)
contents-clean constants [] h = tt
contents-clean constants (p ∷ ps) h = (content-clean constants p.form h.0, contents-clean constants ps h.1)

-- a line of these tokens begins
pub fresh-clean : (w : World) (contexts : List Context) (ts : List Token) → AreCleanTokens ts → AreClean (fresh (bound_of ts (map (class_of w contexts) (names_of ts)))).items
fresh-clean w contexts ts h =
    let line : Line = bound_of ts (map (class_of w contexts) (names_of ts)) in
    contents-clean line.constants line.items (bound-clean ts (map (class_of w contexts) (names_of ts)) h)

pub begun_of-clean : (w : World) (contexts : List Context) (r : Answer) → AreCleanIfAny r → IsCleanRest (begun_of w contexts r)
begun_of-clean w contexts (Ok ts) h = fresh-clean w contexts ts h
begun_of-clean w contexts (Err error) h = tt

empty-clean : IsCleanText []
unfolding tokens_of pieces_of unmatched
empty-clean = tt

get-clean : (lines : List Text) (k : ℕ) → AllByRecursion IsCleanText lines → IsCleanText (unwrap_or (slice_get lines k) [])
get-clean [] k h = empty-clean
get-clean (line ∷ lines) zero h = h.0
get-clean (line ∷ lines) (suc k) h = get-clean lines k h.1

-- the line of a function
pub line_of-clean : (d : Definition) (n : ℕ) → IsCleanFunction d → IsCleanText (line_of d n)
line_of-clean d n h = get-clean d.lines _ h
