-- What phrases come to: which names are given a value, what is called, which index origins are set.
use Rattle.std.proofs.Common.{◌≡◌, ◌⊎◌, inl, inr, ℕ, zero, suc, ◌≤◌, ◌&&◌, Bool, true, false, List, [], ◌∷◌, map, Option, Some, None, refl, sym, ap, arith, true≢false}
use Rattle.std.specs.Prelude.{ℤ, pos, is_none, is_some, nat_lt, Result, Ok, Err, if◌then◌else◌}
use Rattle.std.specs.Cmp.{first_so}
use Rattle.apl_arrays.specs.Cells.{Arr, Items, Numbers, Characters}
use Rattle.apl_faults.specs.declared.fault.Fault.{Fault}
use Rattle.apl_faults.specs.declared.fault.Fault.TheVariants.{Syntax, Rank, Limit}
use Rattle.apl_symbols.specs.declared.primitive.Primitive.TheVariants.{Execute as ExecuteSign}
use Rattle.apl_symbols.specs.declared.symbol.Symbol.TheVariants.{Colon}
use Rattle.apl_symbols.specs.declared.system.SystemName.TheVariants as systems
use Rattle.apl_symbols.specs.declared.system.SystemName.TheVariants.{Origin, LineCounter, NameClass}
use Rattle.apl_tokens.specs.declared.token.Kind.{Kind}
use Rattle.apl_tokens.specs.declared.token.Kind.TheVariants as tokens
use Rattle.apl_tokens.specs.declared.token.Token.{Token}
use Rattle.apl_tokens.specs.declared.line.TokenError.{TokenError}
use Rattle.apl_tokens.specs.Kinds.{is_colon}
use Rattle.apl_tokens.specs.Spelling.{IsName}
use Rattle.apl_tokens.specs.Tokens.{tokens_of}
use Rattle.apl_code.specs.Instr.{IsAction, IsVariable}
use Rattle.apl_code.specs.declared.instr.Action.TheVariants.{Box}
use Rattle.apl_code.specs.declared.instr.Source.{Source}
use Rattle.apl_code.specs.declared.row.Row.{Row}
use Rattle.apl_code.specs.declared.row.Row.TheVariants.{Index, Read, Call as CallRow, Monadic, Dyadic, Assign, AssignIndexed, Show}
use Rattle.apl_code.specs.declared.row.Function.{Function}
use Rattle.apl_code.specs.declared.row.Function.TheVariants as functions
use Rattle.apl_code.specs.declared.row.Variable.{Variable}
use Rattle.apl_code.specs.declared.row.Variable.TheVariants.{Name, System}
use Rattle.apl_defn.specs.Definitions.{Text, Definition}
use Rattle.apl_defn.specs.Defining.{IsDefined, label_in}
use Rattle.apl_defn.specs.Reading.{name_in}
use Rattle.apl_listing.specs.Kinds.{is_empty}
use Rattle.apl_translate.specs.declared.form.Form.TheVariants as forms
use Rattle.apl_translate.specs.Translation.{action_of, result_of}
use Rattle.apl_names.specs.declared.binding.Binding.{Binding}
use Rattle.apl_names.specs.declared.binding.Binding.TheVariants as bindings
use Rattle.apl_names.specs.Maps.{found}
use Rattle.apl_primitives.specs.Taken.{Taken, One, Two, ListAndOne}
use Rattle.apl_primitives.specs.Values.{phrase_value}
use Rattle.apl_select.specs.Assignment.{assigned}
use Rattle.apl_machine_state.specs.declared.operand.Operand.{Operand}
use Rattle.apl_machine_state.specs.declared.watch.Watch.{Watch}
use Rattle.apl_machine_state.specs.declared.watch.Watch.TheVariants.{Stop, Trace}
use Rattle.apl_machine_state.specs.Environment.{Call, Execute, Scene, index_origin, origin_name, scalar}
use Rattle.apl_machine_state.specs.Items.{Rest}
use Rattle.apl_machine_state.specs.Texts.{colon_behind, colon_of}
use Rattle.apl_machine_state.specs.Watching.{function_named, is_list, lines_among, numbers_in}
use Rattle.apl_machine_state.specs.Outcomes.{Outcome, Becomes, Makes, Writes, Assigns, SetsOrigin, Enters, Watches, Executes, Faults, of_result, operand_value, taken_of, read_by, read, enters, call_niladic, call_monadic, call_dyadic, called, class_of_items, name_class, watched_by, watched, watch, rewatched, rewatch, text_in, executed_as, executed_by, executed, execute, monadic_with, monadic, dyadic_with, dyadic, assign_by, as_origin, origin_kept, origin_set, assign_one, assign, assigned_result, assign_indexed_by, origin_result, assign_slots, assign_indexed, shown, outcome}
use Rattle.apl_parts.specs.Taken.{part_of}
use Rattle.apl_saved.specs.Rules.{Calls, HasNoLabel, IsThere}
use Rattle.apl_savable.proofs.Spelling.{name-spelled}

-- a user name is given a value, or a call's own ⎕IO the scalar 0 or 1
abbrev pub IsTarget : Option Binding → Text → Arr → Type 0
IsTarget o name a = IsName name ⊎ ((name ≡ origin_name) × (is_some o ≡ true) × ((a ≡ scalar 0) ⊎ (a ≡ scalar 1)))

-- what a row of these operands may come to
abbrev pub IsRight : Scene → Row → List (Option Source) → Outcome → Type 0
IsRight s r ss (Becomes value) = result_of r ≡ forms.Given
IsRight s r ss (Makes slots) = (result_of r ≡ forms.Slots) × (action_of r ≡ Box) × (map is_none slots ≡ map is_empty ss)
IsRight s r ss (Writes value) = result_of r ≡ forms.Given
IsRight s r ss (Assigns name array value) = (result_of r ≡ forms.Given) × IsTarget (found s.maps name) name array
IsRight s r ss (SetsOrigin io value) = (result_of r ≡ forms.Given) × (io ≤ 1)
IsRight s r ss (Enters d a b) = (result_of r ≡ forms.Given) × IsDefined d × Calls (action_of r) (part_of (Call d 0 [] None))
IsRight s r ss (Watches which name lines) = result_of r ≡ forms.Given
IsRight s r ss (Executes text tokens) = (result_of r ≡ forms.Given) × (tokens_of text ≡ Ok tokens) × HasNoLabel text × ((rest : Rest) → Calls (action_of r) (part_of (Execute text rest)))
IsRight s r ss (Faults fault) = Unit {0}

-- a function that a name stands for has that name
abbrev pub IsOwn : Text → Option Binding → Type 0
IsOwn name (Some (bindings.Function d)) = (d.header.name ≡ name) × IsDefined d
IsOwn name o = Unit {0}

-- ---- values and faults

result-right : (s : Scene) (r : Row) (ss : List (Option Source)) (x : Result Arr Fault) → result_of r ≡ forms.Given → IsRight s r ss (of_result x)
result-right s r ss (Ok a) g = g
result-right s r ss (Err fault) g = tt

read-by-right : (s : Scene) (r : Row) (ss : List (Option Source)) (b : Option Binding) → result_of r ≡ forms.Given → IsRight s r ss (read_by b)
read-by-right s r ss (Some (bindings.Value a)) g = g
read-by-right s r ss (Some (bindings.Label n)) g = g
read-by-right s r ss (Some (bindings.Function d)) g = tt
read-by-right s r ss (Some bindings.Unset) g = tt
read-by-right s r ss None g = tt

read-right : (s : Scene) (v : Variable) (ss : List (Option Source)) → IsRight s (Read v) ss (read s v)
read-right s (Name name) ss = read-by-right s (Read (Name name)) ss (found s.maps name) refl
read-right s (System Origin) ss = refl
read-right s (System name) ss = tt

-- ---- calls

is-there : (o : Option Text) → is_some o ≡ true → IsThere o
is-there None e = absurd (true≢false (sym e))
is-there (Some name) e = tt

is-none : (o : Option Text) → is_some o ≡ false → o ≡ None
is-none None e = refl
is-none (Some name) e = absurd (true≢false e)

enters-right : (s : Scene) (r : Row) (ss : List (Option Source)) (d : Definition) (a b : Option Arr) → result_of r ≡ forms.Given → IsDefined d → Calls (action_of r) (part_of (Call d 0 [] None)) → IsRight s r ss (enters s d a b)
enters-right s r ss d a b g h c = by (nat_lt s.standing 256)
  where
    by : (few : Bool) → IsRight s r ss (if few then Enters d a b else Faults Limit)
    by true = (g, h, c)
    by false = tt

niladic-right : (s : Scene) (name : Text) (ss : List (Option Source)) (b : Option Binding) → IsOwn name b → IsRight s (CallRow (Name name)) ss (call_niladic s b)
niladic-right s name ss (Some (bindings.Function d)) h = by (is_some d.header.right) refl
  where
    by : (t : Bool) → is_some d.header.right ≡ t → IsRight s (CallRow (Name name)) ss (if t then Faults Syntax else enters s d None None)
    by true e = tt
    by false e = enters-right s (CallRow (Name name)) ss d None None refl h.1 (sym h.0, is-none d.header.right e)
niladic-right s name ss (Some (bindings.Value a)) h = tt
niladic-right s name ss (Some (bindings.Label n)) h = tt
niladic-right s name ss (Some bindings.Unset) h = tt
niladic-right s name ss None h = tt

call-monadic-right : (s : Scene) (name : Text) (ss : List (Option Source)) (b : Option Binding) (x : Arr) → IsOwn name b → IsRight s (Monadic (functions.Name name)) ss (call_monadic s b x)
call-monadic-right s name ss (Some (bindings.Function d)) x h = by (is_some d.header.right) refl
  where
    by : (t : Bool) → is_some d.header.right ≡ t → IsRight s (Monadic (functions.Name name)) ss (if t then enters s d None (Some x) else Faults Syntax)
    by true e = enters-right s (Monadic (functions.Name name)) ss d None (Some x) refl h.1 (sym h.0, is-there d.header.right e)
    by false e = tt
call-monadic-right s name ss (Some (bindings.Value a)) x h = tt
call-monadic-right s name ss (Some (bindings.Label n)) x h = tt
call-monadic-right s name ss (Some bindings.Unset) x h = tt
call-monadic-right s name ss None x h = tt

call-dyadic-right : (s : Scene) (name : Text) (ss : List (Option Source)) (b : Option Binding) (x y : Arr) → IsOwn name b → IsRight s (Dyadic (functions.Name name)) ss (call_dyadic s b x y)
call-dyadic-right s name ss (Some (bindings.Function d)) x y h = by (is_some d.header.left && is_some d.header.right) refl
  where
    by : (t : Bool) → (is_some d.header.left && is_some d.header.right) ≡ t → IsRight s (Dyadic (functions.Name name)) ss (if t then enters s d (Some x) (Some y) else Faults Syntax)
    by true e = enters-right s (Dyadic (functions.Name name)) ss d (Some x) (Some y) refl h.1 (sym h.0, is-there d.header.left (first_so (is_some d.header.left) (is_some d.header.right) e))
    by false e = tt
call-dyadic-right s name ss (Some (bindings.Value a)) x y h = tt
call-dyadic-right s name ss (Some (bindings.Label n)) x y h = tt
call-dyadic-right s name ss (Some bindings.Unset) x y h = tt
call-dyadic-right s name ss None x y h = tt

-- each name of the scene is its function's own
abbrev pub AreOwn : Scene → Type 0
AreOwn s = (name : Text) → IsOwn name (found s.maps name)

called-right : (s : Scene) (v : Variable) (ss : List (Option Source)) → AreOwn s → IsRight s (CallRow v) ss (called s v)
called-right s (System LineCounter) ss own = refl
called-right s (System name) ss own = tt
called-right s (Name name) ss own = niladic-right s name ss (found s.maps name) (own name)

-- ---- ⎕NC, ⎕STOP and ⎕TRACE

class-right : (s : Scene) (r : Row) (ss : List (Option Source)) (items : Items) → result_of r ≡ forms.Given → IsRight s r ss (class_of_items s items)
class-right s r ss (Numbers numbers) g = tt
class-right s r ss (Characters text) g = g

name-class-right : (s : Scene) (r : Row) (ss : List (Option Source)) (b : Arr) → result_of r ≡ forms.Given → IsRight s r ss (name_class s b)
name-class-right s r ss b g = by (is_list b)
  where
    by : (list : Bool) → IsRight s r ss (if list then class_of_items s b.items else Faults Rank)
    by true = class-right s r ss b.items g
    by false = tt

watched-by-right : (s : Scene) (r : Row) (ss : List (Option Source)) (which : Watch) (text : Text) (o : Option Definition) (new : Option (Definition → List ℕ)) → result_of r ≡ forms.Given → IsRight s r ss (watched_by which text o new)
watched-by-right s r ss which text None new g = tt
watched-by-right s r ss which text (Some d) None g = g
watched-by-right s r ss which text (Some d) (Some new) g = g

watched-right : (s : Scene) (r : Row) (ss : List (Option Source)) (which : Watch) (items : Items) (new : Option (Definition → List ℕ)) → result_of r ≡ forms.Given → IsRight s r ss (watched s which items new)
watched-right s r ss which (Numbers numbers) new g = tt
watched-right s r ss which (Characters text) new g = watched-by-right s r ss which text (function_named s text) new g

watch-right : (s : Scene) (r : Row) (ss : List (Option Source)) (which : Watch) (b : Arr) → result_of r ≡ forms.Given → IsRight s r ss (watch s which b)
watch-right s r ss which b g = by (is_list b)
  where
    by : (list : Bool) → IsRight s r ss (if list then watched s which b.items None else Faults Rank)
    by true = watched-right s r ss which b.items None g
    by false = tt

rewatched-right : (s : Scene) (r : Row) (ss : List (Option Source)) (which : Watch) (numbers : Option (List ℤ)) (items : Items) → result_of r ≡ forms.Given → IsRight s r ss (rewatched s which numbers items)
rewatched-right s r ss which None items g = tt
rewatched-right s r ss which (Some numbers) items g = watched-right s r ss which items (Some (lines_among numbers)) g

rewatch-right : (s : Scene) (r : Row) (ss : List (Option Source)) (which : Watch) (a b : Arr) → result_of r ≡ forms.Given → IsRight s r ss (rewatch s which a b)
rewatch-right s r ss which a b g = by (is_list a && is_list b)
  where
    by : (lists : Bool) → IsRight s r ss (if lists then rewatched s which (numbers_in a.items) b.items else Faults Rank)
    by true = rewatched-right s r ss which (numbers_in a.items) b.items g
    by false = tt

-- ---- ⍎

neither : (b : Bool) → ◌≡◌ {A = Option Text} (if b then None else None) None
neither true = refl
neither false = refl

label-behind : (k j : Kind) (at : ℕ) → colon_behind k j at ≡ None → (if is_colon j then name_in k else None) ≡ None
label-behind (tokens.Name name) (tokens.Symbol Colon) at h = cc
label-behind (tokens.Name name) j at h = refl
label-behind k j at h = neither (is_colon j)

pub no-label : (ts : List Token) → colon_of ts ≡ None → label_in ts ≡ None
no-label [] h = refl
no-label (t ∷ []) h = refl
no-label (t ∷ u ∷ ts) h = label-behind t.kind u.kind u.at h

executed-as-right : (s : Scene) (ss : List (Option Source)) (text : Text) (ts : List Token) (colon : Option ℕ) → tokens_of text ≡ Ok ts → colon_of ts ≡ colon → IsRight s (Monadic (functions.Primitive ExecuteSign)) ss (executed_as s text ts colon)
executed-as-right s ss text ts (Some at) e c = tt
executed-as-right s ss text ts None e c = by (nat_lt s.standing 256)
  where
    by : (few : Bool) → IsRight s (Monadic (functions.Primitive ExecuteSign)) ss (if few then Executes text ts else Faults Limit)
    by true = (refl, e, record { tokens = ts; read = e; unlabelled = no-label ts c }, λ rest. tt)
    by false = tt

executed-by-right : (s : Scene) (ss : List (Option Source)) (text : Text) (x : Result (List Token) TokenError) → tokens_of text ≡ x → IsRight s (Monadic (functions.Primitive ExecuteSign)) ss (executed_by s text x)
executed-by-right s ss text (Ok ts) e = executed-as-right s ss text ts (colon_of ts) e refl
executed-by-right s ss text (Err error) e = tt

executed-right : (s : Scene) (ss : List (Option Source)) (text : Option Text) → IsRight s (Monadic (functions.Primitive ExecuteSign)) ss (executed s text)
executed-right s ss None = tt
executed-right s ss (Some text) = executed-by-right s ss text (tokens_of text) refl

execute-right : (s : Scene) (ss : List (Option Source)) (b : Arr) → IsRight s (Monadic (functions.Primitive ExecuteSign)) ss (execute s b)
execute-right s ss b = by (is_list b)
  where
    by : (list : Bool) → IsRight s (Monadic (functions.Primitive ExecuteSign)) ss (if list then executed s (text_in b.items) else Faults Rank)
    by true = executed-right s ss (text_in b.items)
    by false = tt

-- ---- functions

monadic-with-right : (s : Scene) (f : Function) (ss : List (Option Source)) (b : Arr) → AreOwn s → IsRight s (Monadic f) ss (monadic_with s f b)
monadic-with-right s (functions.Name name) ss b own = call-monadic-right s name ss (found s.maps name) b (own name)
monadic-with-right s (functions.System NameClass) ss b own = name-class-right s (Monadic (functions.System NameClass)) ss b refl
monadic-with-right s (functions.Primitive ExecuteSign) ss b own = execute-right s ss b
monadic-with-right s (functions.System systems.Stop) ss b own = watch-right s (Monadic (functions.System systems.Stop)) ss Stop b refl
monadic-with-right s (functions.System systems.Trace) ss b own = watch-right s (Monadic (functions.System systems.Trace)) ss Trace b refl
monadic-with-right s f ss b own = result-right s (Monadic f) ss (phrase_value (Monadic f) (One b) (index_origin s)) refl

monadic-right : (s : Scene) (f : Function) (ss : List (Option Source)) (taken : Taken) → AreOwn s → IsRight s (Monadic f) ss (monadic s f taken)
monadic-right s f ss (One b) own = monadic-with-right s f ss b own
monadic-right s f ss taken own = tt

dyadic-with-right : (s : Scene) (f : Function) (ss : List (Option Source)) (a b : Arr) → AreOwn s → IsRight s (Dyadic f) ss (dyadic_with s f a b)
dyadic-with-right s (functions.Name name) ss a b own = call-dyadic-right s name ss (found s.maps name) a b (own name)
dyadic-with-right s (functions.System systems.Stop) ss a b own = rewatch-right s (Dyadic (functions.System systems.Stop)) ss Stop a b refl
dyadic-with-right s (functions.System systems.Trace) ss a b own = rewatch-right s (Dyadic (functions.System systems.Trace)) ss Trace a b refl
dyadic-with-right s f ss a b own = result-right s (Dyadic f) ss (phrase_value (Dyadic f) (Two a b) (index_origin s)) refl

dyadic-right : (s : Scene) (f : Function) (ss : List (Option Source)) (taken : Taken) → AreOwn s → IsRight s (Dyadic f) ss (dyadic s f taken)
dyadic-right s f ss (Two a b) own = dyadic-with-right s f ss a b own
dyadic-right s f ss taken own = tt

-- ---- assignment

assign-by-right : (s : Scene) (r : Row) (ss : List (Option Source)) (name : Text) (o : Option Binding) (b : Arr) → result_of r ≡ forms.Given → IsName name → IsRight s r ss (assign_by o name b)
assign-by-right s r ss name (Some (bindings.Label n)) b g h = tt
assign-by-right s r ss name (Some (bindings.Function d)) b g h = tt
assign-by-right s r ss name (Some (bindings.Value a)) b g h = (g, inl h)
assign-by-right s r ss name (Some bindings.Unset) b g h = (g, inl h)
assign-by-right s r ss name None b g h = (g, inl h)

-- an index origin is 0 or 1
abbrev IsBit : Option ℕ → Type 0
IsBit None = Unit {0}
IsBit (Some n) = n ≤ 1

origin-bit : (items : Items) → IsBit (as_origin items)
origin-bit (Numbers (pos zero ∷ [])) = omega arith
origin-bit (Numbers (pos (suc zero) ∷ [])) = omega arith
origin-bit items = tt

pub bit-scalar : (n : ℕ) → n ≤ 1 → (scalar n ≡ scalar 0) ⊎ (scalar n ≡ scalar 1)
bit-scalar zero h = inl refl
bit-scalar (suc zero) h = inr refl
bit-scalar (suc (suc n)) h = absurd (omega (arith, h))

origin-kept-right : (s : Scene) (r : Row) (ss : List (Option Source)) (o : Option Binding) (n : ℕ) (value : Arr) → result_of r ≡ forms.Given → found s.maps origin_name ≡ o → n ≤ 1 → IsRight s r ss (origin_kept o n value)
origin-kept-right s r ss (Some binding) n value g e h = (g, inr (refl, ap is_some e, bit-scalar n h))
origin-kept-right s r ss None n value g e h = (g, h)

origin-set-right : (s : Scene) (r : Row) (ss : List (Option Source)) (n : Option ℕ) (value : Arr) → result_of r ≡ forms.Given → IsBit n → IsRight s r ss (origin_set s n value)
origin-set-right s r ss None value g h = tt
origin-set-right s r ss (Some n) value g h = origin-kept-right s r ss (found s.maps origin_name) n value g refl h

-- a user name of the row is spelled as names are
abbrev IsSpelled : Variable → Type 0
IsSpelled (Name name) = IsName name
IsSpelled (System name) = Unit {0}

variable-spelled : (v : Variable) → IsVariable v → IsSpelled v
variable-spelled (Name name) h = name-spelled name h
variable-spelled (System name) h = tt

assign-one-right : (s : Scene) (r : Row) (ss : List (Option Source)) (v : Variable) (b : Arr) → result_of r ≡ forms.Given → IsSpelled v → IsRight s r ss (assign_one s v b)
assign-one-right s r ss (Name name) b g h = assign-by-right s r ss name (found s.maps name) b g h
assign-one-right s r ss (System Origin) b g h = origin-set-right s r ss (as_origin b.items) b g (origin-bit b.items)
assign-one-right s r ss (System name) b g h = tt

assign-right : (s : Scene) (ss : List (Option Source)) (v : Variable) (taken : Taken) → IsSpelled v → IsRight s (Assign v) ss (assign s v taken)
assign-right s ss v (One b) h = assign-one-right s (Assign v) ss v b refl h
assign-right s ss v taken h = tt

assigned-right : (s : Scene) (r : Row) (ss : List (Option Source)) (name : Text) (x : Result Arr Fault) (value : Arr) → result_of r ≡ forms.Given → IsName name → IsRight s r ss (assigned_result name x value)
assigned-right s r ss name (Ok a) value g h = (g, inl h)
assigned-right s r ss name (Err fault) value g h = tt

indexed-by-right : (s : Scene) (r : Row) (ss : List (Option Source)) (name : Text) (o : Option Binding) (slots : List (Option Arr)) (b : Arr) (origin : ℕ) → result_of r ≡ forms.Given → IsName name → IsRight s r ss (assign_indexed_by o name slots b origin)
indexed-by-right s r ss name (Some (bindings.Value v)) slots b origin g h = assigned-right s r ss name (assigned v slots b origin) b g h
indexed-by-right s r ss name (Some (bindings.Label n)) slots b origin g h = tt
indexed-by-right s r ss name (Some (bindings.Function d)) slots b origin g h = tt
indexed-by-right s r ss name (Some bindings.Unset) slots b origin g h = tt
indexed-by-right s r ss name None slots b origin g h = tt

origin-result-right : (s : Scene) (r : Row) (ss : List (Option Source)) (x : Result Arr Fault) (value : Arr) → result_of r ≡ forms.Given → IsRight s r ss (origin_result s x value)
origin-result-right s r ss (Ok a) value g = origin-set-right s r ss (as_origin a.items) value g (origin-bit a.items)
origin-result-right s r ss (Err fault) value g = tt

slots-right : (s : Scene) (r : Row) (ss : List (Option Source)) (v : Variable) (slots : List (Option Arr)) (b : Arr) → result_of r ≡ forms.Given → IsSpelled v → IsRight s r ss (assign_slots s v slots b)
slots-right s r ss (Name name) slots b g h = indexed-by-right s r ss name (found s.maps name) slots b (index_origin s) g h
slots-right s r ss (System Origin) slots b g h = origin-result-right s r ss (assigned (scalar (index_origin s)) slots b (index_origin s)) b g
slots-right s r ss (System name) slots b g h = tt

assign-indexed-right : (s : Scene) (ss : List (Option Source)) (v : Variable) (taken : Taken) → IsSpelled v → IsRight s (AssignIndexed v) ss (assign_indexed s v taken)
assign-indexed-right s ss v (ListAndOne slots b) h = slots-right s (AssignIndexed v) ss v slots b refl h
assign-indexed-right s ss v taken h = tt

shown-right : (s : Scene) (ss : List (Option Source)) (taken : Taken) → IsRight s Show ss (shown taken)
shown-right s ss (One b) = refl
shown-right s ss taken = tt

-- the empty slots of an index list are those of its instruction
abbrev pub AreSlots : Row → List (Option Source) → List (Option Operand) → Type 0
AreSlots (Index n) ss os = map is_none (map operand_value os) ≡ map is_empty ss
AreSlots r ss os = Unit {0}

-- what a phrase of any row comes to
pub outcome-right : (s : Scene) (r : Row) (ss : List (Option Source)) (os : List (Option Operand)) → IsAction (action_of r) → AreOwn s → AreSlots r ss os → IsRight s r ss (outcome s r os)
outcome-right s (Index n) ss os w own h = (refl, refl, h)
outcome-right s (Read v) ss os w own h = read-right s v ss
outcome-right s (CallRow v) ss os w own h = called-right s v ss own
outcome-right s (Monadic f) ss os w own h = monadic-right s f ss (taken_of os) own
outcome-right s (Dyadic f) ss os w own h = dyadic-right s f ss (taken_of os) own
outcome-right s (Assign v) ss os w own h = assign-right s ss v (taken_of os) (variable-spelled v w)
outcome-right s (AssignIndexed v) ss os w own h = assign-indexed-right s ss v (taken_of os) (variable-spelled v w)
outcome-right s Show ss os w own h = shown-right s ss (taken_of os)
outcome-right s r ss os w own h = result-right s r ss (phrase_value r (taken_of os) (index_origin s)) refl
