-- What phrases may come to: which names are assigned to, which functions are called, which vectors are kept.
use Rattle.std.proofs.Common.{◌≡◌, ℕ, suc, ◌+◌, ◌<◌, ◌≤◌, ◌&&◌, Bool, true, false, cond, List, [], ◌∷◌, length, filter, Option, Some, None, refl, sym, subst, ◌∙◌, arith}
use Rattle.std.specs.Prelude.{ℤ, pos, nat_lt, is_some, Result, Ok, Err, if◌then◌else◌}
use Rattle.std.specs.List.{list_any}
use Rattle.std.specs.Ordering.{int_eq}
use Rattle.std.proofs.lemmas.Bool.Decides.{nat_tests}
use Rattle.apl_arrays.specs.Cells.{Arr, Items, Numbers, Characters}
use Rattle.apl_faults.specs.declared.fault.Fault.{Fault}
use Rattle.apl_faults.specs.declared.fault.Fault.TheVariants.{Syntax, Rank, Limit}
use Rattle.apl_symbols.specs.Names.{is_short_enough}
use Rattle.apl_symbols.specs.declared.primitive.Primitive.TheVariants.{Execute}
use Rattle.apl_symbols.specs.declared.system.SystemName.TheVariants as systems
use Rattle.apl_symbols.specs.declared.system.SystemName.TheVariants.{Origin, LineCounter, NameClass}
use Rattle.apl_tokens.specs.declared.token.Token.{Token}
use Rattle.apl_tokens.specs.declared.line.TokenError.{TokenError}
use Rattle.apl_tokens.specs.Tokens.{tokens_of}
use Rattle.apl_code.specs.declared.row.Row.{Row}
use Rattle.apl_code.specs.declared.row.Row.TheVariants.{Index, Read, Call as CallRow, Monadic, Dyadic, Assign, AssignIndexed, Show}
use Rattle.apl_code.specs.declared.row.Function.{Function}
use Rattle.apl_code.specs.declared.row.Function.TheVariants as functions
use Rattle.apl_code.specs.declared.row.Variable.{Variable}
use Rattle.apl_code.specs.declared.row.Variable.TheVariants.{Name, System}
use Rattle.apl_names.specs.declared.binding.Binding.{Binding}
use Rattle.apl_names.specs.declared.binding.Binding.TheVariants as bindings
use Rattle.apl_names.specs.Maps.{found, function_in, last_map, said}
use Rattle.apl_primitives.specs.Taken.{Taken, One, Two, ListAndOne}
use Rattle.apl_primitives.specs.Values.{phrase_value}
use Rattle.apl_select.specs.Assignment.{assigned}
use Rattle.apl_defn.specs.Definitions.{Text, Definition}
use Rattle.apl_machine_state.specs.declared.operand.Operand.{Operand}
use Rattle.apl_machine_state.specs.declared.watch.Watch.{Watch}
use Rattle.apl_machine_state.specs.declared.watch.Watch.TheVariants.{Stop, Trace}
use Rattle.apl_machine_state.specs.Environment.{Scene, scalar, origin_name, index_origin}
use Rattle.apl_machine_state.specs.Texts.{colon_of}
use Rattle.apl_machine_state.specs.Watching.{function_named, is_list, lines_among, numbered, numbers_in}
use Rattle.apl_machine_state.specs.Outcomes.{Outcome, Assigns, Enters, Watches, Executes, Faults, of_result, taken_of, read_by, read, enters, call_niladic, call_monadic, call_dyadic, called, class_of_items, name_class, watched_by, watched, watch, rewatched, rewatch, text_in, executed_as, executed_by, executed, execute, monadic_with, monadic, dyadic_with, dyadic, assign_by, as_origin, origin_kept, origin_set, assign_one, assign, assigned_result, assign_indexed_by, origin_result, assign_slots, assign_indexed, shown, outcome}
use Rattle.apl_order.specs.Kept.{Ascend, AreAtMost, AreLines}

-- what stands for a binding can be replaced by a value
abbrev pub IsAssignable : Option Binding → Type 0
IsAssignable None = Unit {0}
IsAssignable (Some bindings.Unset) = Unit {0}
IsAssignable (Some (bindings.Label n)) = ⊥
IsAssignable (Some (bindings.Value array)) = Unit {0}
IsAssignable (Some (bindings.Function d)) = ⊥

-- some name of the scene is that function
abbrev pub IsThere : Scene → Definition → Type 0
IsThere s d = (name : Text) × (found s.maps name ≡ Some (bindings.Function d))

-- the new vector of a name is one of lines of the global function
abbrev pub AreNew : Scene → Text → Option (List ℕ) → Type 0
AreNew s name None = Unit {0}
AreNew s name (Some lines) = (d : Definition) × (function_in (said (last_map s.maps) name) ≡ Some d) × AreLines d lines

abbrev pub IsFit : Scene → Outcome → Type 0
IsFit s (Assigns name array value) = IsAssignable (found s.maps name)
IsFit s (Enters d a b) = (s.standing < 256) × IsThere s d
IsFit s (Watches which name lines) = AreNew s name lines
IsFit s (Executes text tokens) = (s.standing < 256) × (tokens_of text ≡ Ok tokens)
IsFit s outcome = Unit {0}

-- ---- values and faults

result-fit : (s : Scene) (r : Result Arr Fault) → IsFit s (of_result r)
result-fit s (Ok a) = tt
result-fit s (Err fault) = tt

read-by-fit : (s : Scene) (b : Option Binding) → IsFit s (read_by b)
read-by-fit s (Some (bindings.Value a)) = tt
read-by-fit s (Some (bindings.Label n)) = tt
read-by-fit s (Some (bindings.Function d)) = tt
read-by-fit s (Some bindings.Unset) = tt
read-by-fit s None = tt

read-fit : (s : Scene) (v : Variable) → IsFit s (read s v)
read-fit s (Name name) = read-by-fit s (found s.maps name)
read-fit s (System Origin) = tt
read-fit s (System name) = tt

-- ---- calls

few-by : (n : ℕ) → nat_lt n 256 ≡ true → n < 256
few-by n h = grind (arith, nat_tests)

enters-fit : (s : Scene) (d : Definition) (a b : Option Arr) → IsThere s d → IsFit s (enters s d a b)
enters-fit s d a b there = by (nat_lt s.standing 256) refl
  where
    by : (few : Bool) → nat_lt s.standing 256 ≡ few → IsFit s (if few then Enters d a b else Faults Limit)
    by true e = (few-by s.standing e, there)
    by false e = tt

-- a call of what a name stands for, if a test of its header allows it
allowed-fit : (s : Scene) (allowed : Bool) (d : Definition) (a b : Option Arr) → IsThere s d → IsFit s (if allowed then enters s d a b else Faults Syntax)
allowed-fit s true d a b there = enters-fit s d a b there
allowed-fit s false d a b there = tt

refused-fit : (s : Scene) (refused : Bool) (d : Definition) (a b : Option Arr) → IsThere s d → IsFit s (if refused then Faults Syntax else enters s d a b)
refused-fit s true d a b there = tt
refused-fit s false d a b there = enters-fit s d a b there

niladic-fit : (s : Scene) (name : Text) (b : Option Binding) → found s.maps name ≡ b → IsFit s (call_niladic s b)
niladic-fit s name (Some (bindings.Function d)) e = refused-fit s (is_some d.header.right) d None None (name, e)
niladic-fit s name (Some (bindings.Value a)) e = tt
niladic-fit s name (Some (bindings.Label n)) e = tt
niladic-fit s name (Some bindings.Unset) e = tt
niladic-fit s name None e = tt

call-monadic-fit : (s : Scene) (name : Text) (b : Option Binding) (x : Arr) → found s.maps name ≡ b → IsFit s (call_monadic s b x)
call-monadic-fit s name (Some (bindings.Function d)) x e = allowed-fit s (is_some d.header.right) d None (Some x) (name, e)
call-monadic-fit s name (Some (bindings.Value a)) x e = tt
call-monadic-fit s name (Some (bindings.Label n)) x e = tt
call-monadic-fit s name (Some bindings.Unset) x e = tt
call-monadic-fit s name None x e = tt

call-dyadic-fit : (s : Scene) (name : Text) (b : Option Binding) (x y : Arr) → found s.maps name ≡ b → IsFit s (call_dyadic s b x y)
call-dyadic-fit s name (Some (bindings.Function d)) x y e = allowed-fit s (is_some d.header.left && is_some d.header.right) d (Some x) (Some y) (name, e)
call-dyadic-fit s name (Some (bindings.Value a)) x y e = tt
call-dyadic-fit s name (Some (bindings.Label n)) x y e = tt
call-dyadic-fit s name (Some bindings.Unset) x y e = tt
call-dyadic-fit s name None x y e = tt

called-fit : (s : Scene) (v : Variable) → IsFit s (called s v)
called-fit s (System LineCounter) = tt
called-fit s (System name) = tt
called-fit s (Name name) = niladic-fit s name (found s.maps name) refl

-- ---- ⎕NC

class-fit : (s : Scene) (items : Items) → IsFit s (class_of_items s items)
class-fit s (Numbers numbers) = tt
class-fit s (Characters text) = tt

name-class-fit : (s : Scene) (b : Arr) → IsFit s (name_class s b)
name-class-fit s b = by (is_list b)
  where
    by : (list : Bool) → IsFit s (if list then class_of_items s b.items else Faults Rank)
    by true = class-fit s b.items
    by false = tt

-- ---- ⎕STOP and ⎕TRACE

chosen : (p : ℕ → Bool) (above k : ℕ) (lines : List Text) → above ≤ k → Ascend above (filter p (numbered (suc k) lines)) × AreAtMost (k + length lines) (filter p (numbered (suc k) lines))
chosen p above k [] h = (tt, tt)
chosen p above k (line ∷ lines) h = by (p (suc k)) (chosen p above (suc k) lines (omega arith)) (chosen p (suc k) (suc k) lines (omega arith))
  where
    later : List ℕ
    later = filter p (numbered (suc (suc k)) lines)

    more : (ns : List ℕ) → AreAtMost (suc k + length lines) ns → AreAtMost (k + suc (length lines)) ns
    more ns a = let e : suc k + length lines ≡ k + suc (length lines) = omega arith in subst (λ (m : ℕ). AreAtMost m ns) e a

    by : (b : Bool) → Ascend above later × AreAtMost (suc k + length lines) later → Ascend (suc k) later × AreAtMost (suc k + length lines) later
        → Ascend above (cond b (suc k ∷ later) later) × AreAtMost (k + suc (length lines)) (cond b (suc k ∷ later) later)
    by true skips goes = ((omega arith, goes.0), (omega arith, more later goes.1))
    by false skips goes = (skips.0, more later skips.1)

from_none : (n : ℕ) → 0 + n ≡ n
from_none n = omega arith

among-lines : (numbers : List ℤ) (d : Definition) → AreLines d (lines_among numbers d)
among-lines numbers d =
    let p : ℕ → Bool = λ n. list_any (λ z. int_eq z (pos n)) numbers in
    let h = chosen p 0 0 d.lines (omega arith) in
    (h.0, subst (λ (m : ℕ). AreAtMost m (filter p (numbered 1 d.lines))) (from_none (length d.lines)) h.1)

-- the function that a text names globally
named-is : (s : Scene) (text : Text) (o : Option Definition) (short : Bool) → (if short then function_in (said (last_map s.maps) text) else None) ≡ o → (d : Definition) → o ≡ Some d → function_in (said (last_map s.maps) text) ≡ Some d
named-is s text o true e d h = e ∙ h
named-is s text o false e d h = cc

watched-by-fit : (s : Scene) (which : Watch) (text : Text) (o : Option Definition) (numbers : Option (List ℤ)) → function_named s text ≡ o
    → IsFit s (watched_by which text o (elim numbers as (λ n. Option (Definition → List ℕ)) [ None ↦ None | Some ns ↦ Some (lines_among ns) ]))
watched-by-fit s which text None numbers e = tt
watched-by-fit s which text (Some d) None e = tt
watched-by-fit s which text (Some d) (Some numbers) e = (d, named-is s text (Some d) (is_short_enough text) e d refl, among-lines numbers d)

asked-fit : (s : Scene) (which : Watch) (items : Items) → IsFit s (watched s which items None)
asked-fit s which (Numbers numbers) = tt
asked-fit s which (Characters text) = watched-by-fit s which text (function_named s text) None refl

replaced-fit : (s : Scene) (which : Watch) (items : Items) (numbers : List ℤ) → IsFit s (watched s which items (Some (lines_among numbers)))
replaced-fit s which (Numbers ns) numbers = tt
replaced-fit s which (Characters text) numbers = watched-by-fit s which text (function_named s text) (Some numbers) refl

watch-fit : (s : Scene) (which : Watch) (b : Arr) → IsFit s (watch s which b)
watch-fit s which b = by (is_list b)
  where
    by : (list : Bool) → IsFit s (if list then watched s which b.items None else Faults Rank)
    by true = asked-fit s which b.items
    by false = tt

rewatched-fit : (s : Scene) (which : Watch) (numbers : Option (List ℤ)) (items : Items) → IsFit s (rewatched s which numbers items)
rewatched-fit s which None items = tt
rewatched-fit s which (Some numbers) items = replaced-fit s which items numbers

rewatch-fit : (s : Scene) (which : Watch) (a b : Arr) → IsFit s (rewatch s which a b)
rewatch-fit s which a b = by (is_list a && is_list b)
  where
    by : (lists : Bool) → IsFit s (if lists then rewatched s which (numbers_in a.items) b.items else Faults Rank)
    by true = rewatched-fit s which (numbers_in a.items) b.items
    by false = tt

-- ---- ⍎

executed-as-fit : (s : Scene) (text : Text) (tokens : List Token) (colon : Option ℕ) → tokens_of text ≡ Ok tokens → IsFit s (executed_as s text tokens colon)
executed-as-fit s text tokens (Some at) e = tt
executed-as-fit s text tokens None e = by (nat_lt s.standing 256) refl
  where
    by : (few : Bool) → nat_lt s.standing 256 ≡ few → IsFit s (if few then Executes text tokens else Faults Limit)
    by true f = (few-by s.standing f, e)
    by false f = tt

executed-by-fit : (s : Scene) (text : Text) (r : Result (List Token) TokenError) → tokens_of text ≡ r → IsFit s (executed_by s text r)
executed-by-fit s text (Ok tokens) e = executed-as-fit s text tokens (colon_of tokens) e
executed-by-fit s text (Err error) e = tt

executed-fit : (s : Scene) (text : Option Text) → IsFit s (executed s text)
executed-fit s None = tt
executed-fit s (Some text) = executed-by-fit s text (tokens_of text) refl

execute-fit : (s : Scene) (b : Arr) → IsFit s (execute s b)
execute-fit s b = by (is_list b)
  where
    by : (list : Bool) → IsFit s (if list then executed s (text_in b.items) else Faults Rank)
    by true = executed-fit s (text_in b.items)
    by false = tt

-- ---- functions

monadic-with-fit : (s : Scene) (f : Function) (b : Arr) → IsFit s (monadic_with s f b)
monadic-with-fit s (functions.Name name) b = call-monadic-fit s name (found s.maps name) b refl
monadic-with-fit s (functions.System NameClass) b = name-class-fit s b
monadic-with-fit s (functions.Primitive Execute) b = execute-fit s b
monadic-with-fit s (functions.System systems.Stop) b = watch-fit s Stop b
monadic-with-fit s (functions.System systems.Trace) b = watch-fit s Trace b
monadic-with-fit s f b = result-fit s (phrase_value (Monadic f) (One b) (index_origin s))

monadic-fit : (s : Scene) (f : Function) (taken : Taken) → IsFit s (monadic s f taken)
monadic-fit s f (One b) = monadic-with-fit s f b
monadic-fit s f taken = tt

dyadic-with-fit : (s : Scene) (f : Function) (a b : Arr) → IsFit s (dyadic_with s f a b)
dyadic-with-fit s (functions.Name name) a b = call-dyadic-fit s name (found s.maps name) a b refl
dyadic-with-fit s (functions.System systems.Stop) a b = rewatch-fit s Stop a b
dyadic-with-fit s (functions.System systems.Trace) a b = rewatch-fit s Trace a b
dyadic-with-fit s f a b = result-fit s (phrase_value (Dyadic f) (Two a b) (index_origin s))

dyadic-fit : (s : Scene) (f : Function) (taken : Taken) → IsFit s (dyadic s f taken)
dyadic-fit s f (Two a b) = dyadic-with-fit s f a b
dyadic-fit s f taken = tt

-- ---- assignment

assign-by-fit : (s : Scene) (name : Text) (o : Option Binding) (b : Arr) → found s.maps name ≡ o → IsFit s (assign_by o name b)
assign-by-fit s name (Some (bindings.Label n)) b e = tt
assign-by-fit s name (Some (bindings.Function d)) b e = tt
assign-by-fit s name (Some (bindings.Value a)) b e = subst IsAssignable (sym e) tt
assign-by-fit s name (Some bindings.Unset) b e = subst IsAssignable (sym e) tt
assign-by-fit s name None b e = subst IsAssignable (sym e) tt

-- where ⎕IO stands for no label and no function
origin-kept-fit : (s : Scene) (o : Option Binding) (n : ℕ) (value : Arr) → IsAssignable (found s.maps origin_name) → IsFit s (origin_kept o n value)
origin-kept-fit s (Some binding) n value h = h
origin-kept-fit s None n value h = tt

origin-set-fit : (s : Scene) (n : Option ℕ) (value : Arr) → IsAssignable (found s.maps origin_name) → IsFit s (origin_set s n value)
origin-set-fit s None value h = tt
origin-set-fit s (Some n) value h = origin-kept-fit s (found s.maps origin_name) n value h

assign-one-fit : (s : Scene) (v : Variable) (b : Arr) → IsAssignable (found s.maps origin_name) → IsFit s (assign_one s v b)
assign-one-fit s (Name name) b h = assign-by-fit s name (found s.maps name) b refl
assign-one-fit s (System Origin) b h = origin-set-fit s (as_origin b.items) b h
assign-one-fit s (System name) b h = tt

assign-fit : (s : Scene) (v : Variable) (taken : Taken) → IsAssignable (found s.maps origin_name) → IsFit s (assign s v taken)
assign-fit s v (One b) h = assign-one-fit s v b h
assign-fit s v taken h = tt

assigned-fit : (s : Scene) (name : Text) (r : Result Arr Fault) (value : Arr) → IsAssignable (found s.maps name) → IsFit s (assigned_result name r value)
assigned-fit s name (Ok a) value h = h
assigned-fit s name (Err fault) value h = tt

indexed-by-fit : (s : Scene) (name : Text) (o : Option Binding) (slots : List (Option Arr)) (b : Arr) (origin : ℕ) → found s.maps name ≡ o → IsFit s (assign_indexed_by o name slots b origin)
indexed-by-fit s name (Some (bindings.Value v)) slots b origin e = assigned-fit s name (assigned v slots b origin) b (subst IsAssignable (sym e) tt)
indexed-by-fit s name (Some (bindings.Label n)) slots b origin e = tt
indexed-by-fit s name (Some (bindings.Function d)) slots b origin e = tt
indexed-by-fit s name (Some bindings.Unset) slots b origin e = tt
indexed-by-fit s name None slots b origin e = tt

origin-result-fit : (s : Scene) (r : Result Arr Fault) (value : Arr) → IsAssignable (found s.maps origin_name) → IsFit s (origin_result s r value)
origin-result-fit s (Ok a) value h = origin-set-fit s (as_origin a.items) value h
origin-result-fit s (Err fault) value h = tt

slots-fit : (s : Scene) (v : Variable) (slots : List (Option Arr)) (b : Arr) → IsAssignable (found s.maps origin_name) → IsFit s (assign_slots s v slots b)
slots-fit s (Name name) slots b h = indexed-by-fit s name (found s.maps name) slots b (index_origin s) refl
slots-fit s (System Origin) slots b h = origin-result-fit s (assigned (scalar (index_origin s)) slots b (index_origin s)) b h
slots-fit s (System name) slots b h = tt

assign-indexed-fit : (s : Scene) (v : Variable) (taken : Taken) → IsAssignable (found s.maps origin_name) → IsFit s (assign_indexed s v taken)
assign-indexed-fit s v (ListAndOne slots b) h = slots-fit s v slots b h
assign-indexed-fit s v taken h = tt

shown-fit : (s : Scene) (taken : Taken) → IsFit s (shown taken)
shown-fit s (One b) = tt
shown-fit s taken = tt

-- what a phrase of any row comes to
pub outcome-fit : (s : Scene) (row : Row) (operands : List (Option Operand)) → IsAssignable (found s.maps origin_name) → IsFit s (outcome s row operands)
outcome-fit s (Index n) operands h = tt
outcome-fit s (Read v) operands h = read-fit s v
outcome-fit s (CallRow v) operands h = called-fit s v
outcome-fit s (Monadic f) operands h = monadic-fit s f (taken_of operands)
outcome-fit s (Dyadic f) operands h = dyadic-fit s f (taken_of operands)
outcome-fit s (Assign v) operands h = assign-fit s v (taken_of operands) h
outcome-fit s (AssignIndexed v) operands h = assign-indexed-fit s v (taken_of operands) h
outcome-fit s Show operands h = shown-fit s (taken_of operands)
outcome-fit s row operands h = result-fit s (phrase_value row (taken_of operands) (index_origin s))
