-- Where neither ⎕STOP nor ⍎ stands among items, the function of their phrase is neither.
use Rattle.std.proofs.Common.{◌≡◌, ℕ, List, [], ◌∷◌, Bool, true, false, Option, Some, None, refl}
use Rattle.std.specs.Prelude.{if◌then◌else◌}
use Rattle.std.specs.List.{AllByRecursion}
use Rattle.apl_code.specs.declared.row.Function.{Function as AnyFunction}
use Rattle.apl_code.specs.declared.row.Variable.{Variable as AnyVariable}
use Rattle.apl_code.specs.declared.row.Row.{Row}
use Rattle.apl_code.specs.declared.row.Row.TheVariants.{Monadic, MonadicAxis, Reduce, ReduceAxis, Dyadic, DyadicAxis, Inner, Outer, Assign, AssignIndexed, Show}
use Rattle.apl_translate.specs.declared.form.Word.TheVariants.{Variable, Niladic, Function, Operator, Dot, Jot, LeftArrow, OpenParenthesis, CloseParenthesis, OpenBracket, Quad}
use Rattle.apl_translate.specs.Phrase.{Kind, B, K, W, when, ends, value_ends, opens, slots_width, index_list, at_value, at_variable, at_niladic, at_function, at_open, at_quad, row, or_here, phrase}
use Rattle.apl_machine_state.specs.declared.operand.Operand.TheVariants.{Value, Slots}
use Rattle.apl_machine_state.specs.Items.{Content, Constant, Given, Reads, Awaited, Item, kind_of, kinds}
use Rattle.apl_resume.specs.Quiet.{is_clean_function, is_clean_word, is_clean_content, AreClean}

abbrev is_clean_item : Kind → Bool
is_clean_item (W w) = is_clean_word w
is_clean_item kind = true

abbrev AreCleanKinds : List Kind → Type 0
AreCleanKinds ks = AllByRecursion (λ k. is_clean_item k ≡ true) ks

abbrev pub IsCleanRow : Row → Type 0
IsCleanRow (Monadic f) = is_clean_function f ≡ true
IsCleanRow (Dyadic f) = is_clean_function f ≡ true
IsCleanRow row = Unit {0}

abbrev IsCleanIfAny : Option Row → Type 0
IsCleanIfAny None = Unit {0}
IsCleanIfAny (Some r) = IsCleanRow r

when-clean : (b : Bool) (r : Row) → IsCleanRow r → IsCleanIfAny (when b r)
when-clean true r h = h
when-clean false r h = tt

value-clean : (ks : List Kind) → AreCleanKinds ks → IsCleanIfAny (at_value ks)
value-clean (K ∷ W LeftArrow ∷ ks) h = tt
value-clean (K ∷ ks) h = tt
value-clean (W (Function f) ∷ B ∷ ks) h = when-clean (ends ks) (Dyadic f) h.0
value-clean (W (Function f) ∷ K ∷ B ∷ ks) h = when-clean (ends ks) (DyadicAxis f) tt
value-clean (W (Function f) ∷ W Dot ∷ W (Function g) ∷ B ∷ ks) h = when-clean _ (Inner f g) tt
value-clean (W Jot ∷ W Dot ∷ W (Function g) ∷ B ∷ ks) h = when-clean _ (Outer g) tt
value-clean ks h = tt

variable-clean : (v : AnyVariable) (ks : List Kind) → IsCleanIfAny (at_variable v ks)
variable-clean v (W LeftArrow ∷ ks) = when-clean (value_ends ks) (Assign v) tt
variable-clean v (K ∷ W LeftArrow ∷ ks) = when-clean (value_ends ks) (AssignIndexed v) tt
variable-clean v (W OpenBracket ∷ ks) = tt
variable-clean v ks = tt

niladic-clean : (n : AnyVariable) (ks : List Kind) → IsCleanIfAny (at_niladic n ks)
niladic-clean n (W LeftArrow ∷ ks) = tt
niladic-clean n ks = tt

function-clean : (f : AnyFunction) (ks : List Kind) → is_clean_function f ≡ true → IsCleanIfAny (at_function f ks)
function-clean f (B ∷ ks) h = when-clean (ends ks) (Monadic f) h
function-clean f (K ∷ B ∷ ks) h = when-clean (ends ks) (MonadicAxis f) tt
function-clean f (W (Operator m) ∷ B ∷ ks) h = when-clean _ (Reduce f m) tt
function-clean f (W (Operator m) ∷ K ∷ B ∷ ks) h = when-clean _ (ReduceAxis f m) tt
function-clean f ks h = tt

open-clean : (ks : List Kind) → IsCleanIfAny (at_open ks)
open-clean (B ∷ W CloseParenthesis ∷ ks) = tt
open-clean ks = tt

quad-clean : (ks : List Kind) → IsCleanIfAny (at_quad ks)
quad-clean (W LeftArrow ∷ ks) = when-clean (value_ends ks) Show tt
quad-clean ks = tt

index-clean : (width : Option ℕ) → IsCleanIfAny (index_list width)
index-clean None = tt
index-clean (Some n) = tt

opening-clean : (b : Bool) (f : AnyFunction) (ks : List Kind) → is_clean_function f ≡ true → IsCleanIfAny (if b then at_function f ks else None)
opening-clean true f ks h = function-clean f ks h
opening-clean false f ks h = tt

row-clean : (before : Option Kind) (ks : List Kind) → AreCleanKinds ks → IsCleanIfAny (row before ks)
row-clean before [] h = tt
row-clean before (B ∷ ks) h = value-clean ks h.1
row-clean before (K ∷ ks) h = tt
row-clean before (W (Variable v) ∷ ks) h = variable-clean v ks
row-clean before (W (Niladic n) ∷ ks) h = niladic-clean n ks
row-clean before (W (Function f) ∷ ks) h = opening-clean (opens before) f ks h.0
row-clean before (W OpenParenthesis ∷ ks) h = open-clean ks
row-clean before (W OpenBracket ∷ ks) h = index-clean (slots_width ks)
row-clean before (W Quad ∷ ks) h = quad-clean ks
row-clean before (W w ∷ ks) h = tt

abbrev pub IsCleanPhrase : Option (ℕ × Row) → Type 0
IsCleanPhrase None = Unit {0}
IsCleanPhrase (Some p) = IsCleanRow p.1

here-clean : (further : Option (ℕ × Row)) (r : Option Row) → IsCleanPhrase further → IsCleanIfAny r → IsCleanPhrase (or_here further r)
here-clean (Some p) r h k = h
here-clean None (Some r) h k = k
here-clean None None h k = tt

kinds-phrase : (before : Option Kind) (ks : List Kind) → AreCleanKinds ks → IsCleanPhrase (phrase before ks)
kinds-phrase before [] h = tt
kinds-phrase before (k ∷ ks) h = here-clean (phrase (Some k) ks) (row before (k ∷ ks)) (kinds-phrase (Some k) ks h.1) (row-clean before (k ∷ ks) h)

kind-clean : (content : Content) → is_clean_content content ≡ true → is_clean_item (kind_of content) ≡ true
kind-clean (Constant a) h = refl
kind-clean (Given (Value a)) h = refl
kind-clean (Given (Slots slots)) h = refl
kind-clean (Reads w) h = h
kind-clean Awaited h = refl

kinds-clean : (items : List Item) → AreClean items → AreCleanKinds (kinds items)
kinds-clean [] h = tt
kinds-clean (item ∷ items) h = (kind-clean item.content h.0, kinds-clean items h.1)

pub phrase-clean : (items : List Item) → AreClean items → IsCleanPhrase (phrase None (kinds items))
phrase-clean items h = kinds-phrase None (kinds items) (kinds-clean items h)
