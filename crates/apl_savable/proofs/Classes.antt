-- The classes with which the names of a line were bound stand in its items.
use Rattle.std.proofs.Common.{◌≡◌, ℕ, zero, suc, ◌+◌, ◌<◌, Bool, true, List, [], ◌∷◌, ◌++◌, length, drop, Option, Some, None, option_map, refl, sym, ap, ◌∙◌, arith, zero-add}
use Rattle.std.specs.List.{flat_map}
use Rattle.apl_symbols.specs.Primitives.{operator_of}
use Rattle.apl_symbols.specs.declared.class.Class.{Class}
use Rattle.apl_symbols.specs.declared.class.Class.TheVariants as classes
use Rattle.apl_symbols.specs.declared.primitive.Primitive.{Primitive}
use Rattle.apl_symbols.specs.declared.primitive.Operator.{Operator as AnyOperator}
use Rattle.apl_symbols.specs.declared.symbol.Symbol.{Symbol}
use Rattle.apl_symbols.specs.declared.symbol.Symbol.TheVariants as symbols
use Rattle.apl_symbols.specs.declared.system.SystemName.{SystemName}
use Rattle.apl_symbols.specs.declared.system.SystemName.TheVariants.{Origin, LineCounter}
use Rattle.apl_tokens.specs.declared.token.Kind.{Kind}
use Rattle.apl_tokens.specs.declared.token.Kind.TheVariants as tokens
use Rattle.apl_tokens.specs.declared.token.Token.{Token}
use Rattle.apl_translate.specs.declared.form.Word.{Word}
use Rattle.apl_translate.specs.declared.form.Form.TheVariants as forms
use Rattle.apl_translate.specs.Binding.{Left, nothing_left, class_at, name_word, system_word, primitive_word, closing, symbol_word, form_of, with_item, placed, items_from, name_in, names_of, without_label, bound_of}
use Rattle.apl_parts.specs.Taken.{class_in, classes_of}

-- how many names tokens have
abbrev count : List Token → ℕ
count ts = length (flat_map (λ (t : Token). name_in t.kind) ts)

got-class : (given : List Class) (n : ℕ) → n < length given → class_at given n ∷ drop (suc n) given ≡ drop n given
got-class [] n lt = absurd (omega arith)
got-class (c ∷ cs) zero lt = refl
got-class (c ∷ cs) (suc n) lt = got-class cs n (omega arith)

name-class : (c : Class) (name : List ℕ) → class_in (forms.Word (name_word c name)) ≡ c ∷ []
name-class classes.Variable name = refl
name-class classes.Niladic name = refl
name-class classes.Function name = refl

system-class : (name : SystemName) → class_in (forms.Word (system_word name)) ≡ []
system-class Origin = refl
system-class LineCounter = refl
system-class name = refl

primitive-class : (left : Left) (f : Primitive) (o : Option AnyOperator) → class_in (forms.Word (primitive_word left.neighbour f o)) ≡ []
primitive-class left f None = grind arith
primitive-class left f (Some m) = grind arith

closing-class : (axes : List Bool) → class_in (forms.Word (closing axes)) ≡ []
closing-class (true ∷ axes) = refl
closing-class axes = refl

abbrev HasNoClass : Option Word → Type 0
HasNoClass None = Unit {0}
HasNoClass (Some w) = class_in (forms.Word w) ≡ []

symbol-class : (left : Left) (symbol : Symbol) → HasNoClass (symbol_word left symbol)
symbol-class left (symbols.Primitive f) = primitive-class left f (operator_of f)
symbol-class left symbols.CloseBracket = closing-class left.axes
symbol-class left symbols.Colon = tt
symbol-class left symbol = refl

-- the classes of these names stand behind those of the names before
class-case : (given : List Class) (left : Left) (kind : Kind) (at : ℕ) (ts : List Token) → ((next : Left) → length given ≡ next.names + count ts → classes_of (items_from given next ts) ≡ drop next.names given) → length given ≡ left.names + length (name_in kind ++ flat_map (λ (t : Token). name_in t.kind) ts)
    → classes_of (placed (form_of given left kind) at ++ items_from given (with_item left kind (form_of given left kind)) ts) ≡ drop left.names given
class-case given left (tokens.Constant numbers) at ts f h = f (with_item left (tokens.Constant numbers) (Some (forms.Constant left.constants))) h
class-case given left (tokens.Text text) at ts f h = f (with_item left (tokens.Text text) (Some (forms.Constant left.constants))) h
class-case given left (tokens.Comment text) at ts f h = f left h
class-case given left (tokens.System name) at ts f h = ap (λ (l : List Class). l ++ classes_of (items_from given (with_item left (tokens.System name) (Some (forms.Word (system_word name)))) ts)) (system-class name) ∙ f (with_item left (tokens.System name) (Some (forms.Word (system_word name)))) h
class-case given left (tokens.Symbol symbol) at ts f h = symbol-case (symbol_word left symbol) (symbol-class left symbol)
  where
    symbol-case : (o : Option Word) → HasNoClass o → classes_of (placed (option_map forms.Word o) at ++ items_from given (with_item left (tokens.Symbol symbol) (option_map forms.Word o)) ts) ≡ drop left.names given
    symbol-case None n = f left h
    symbol-case (Some w) n = ap (λ (l : List Class). l ++ classes_of (items_from given (with_item left (tokens.Symbol symbol) (Some (forms.Word w))) ts)) n ∙ f (with_item left (tokens.Symbol symbol) (Some (forms.Word w))) h
class-case given left (tokens.Name name) at ts f h =
    let c = class_at given left.names in
    let next = with_item left (tokens.Name name) (Some (forms.Word (name_word c name))) in
    ap (λ (l : List Class). l ++ classes_of (items_from given next ts)) (name-class c name) ∙ ap (λ (l : List Class). c ∷ l) (f next (omega (arith, h))) ∙ got-class given left.names (omega (arith, h))

classes-from : (given : List Class) (left : Left) (ts : List Token) → length given ≡ left.names + count ts → classes_of (items_from given left ts) ≡ drop left.names given
classes-from given left [] h = none given left.names (omega (arith, h))
  where
    none : (cs : List Class) (n : ℕ) → length cs ≡ n → [] ≡ drop n cs
    none [] zero e = refl
    none [] (suc n) e = refl
    none (c ∷ cs) zero e = absurd (omega (arith, e))
    none (c ∷ cs) (suc n) e = none cs n (omega (arith, e))
classes-from given left (t ∷ ts) h = class-case given left t.kind t.at ts (λ next g. classes-from given next ts g) h

-- as many classes as names: they stand in the line
pub classes-again : (ts : List Token) (given : List Class) → length given ≡ length (names_of ts) → classes_of (bound_of ts given).items ≡ given
unfolding bound_of names_of
classes-again ts given h = classes-from given nothing_left (without_label ts) (h ∙ sym (zero-add (count (without_label ts))))
