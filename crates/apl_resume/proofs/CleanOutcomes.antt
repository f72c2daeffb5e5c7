-- What a phrase comes to whose function is neither ⎕STOP nor ⍎.
use Rattle.std.proofs.Common.{◌≡◌, ℕ, List, Bool, true, false, Option, Some, None}
use Rattle.std.specs.Prelude.{if◌then◌else◌, not, ◌&&◌, is_some, nat_lt, ℤ, Result, Ok, Err}
use Rattle.apl_arrays.specs.Cells.{Arr, Items, Numbers, Characters}
use Rattle.apl_faults.specs.declared.fault.Fault.{Fault}
use Rattle.apl_faults.specs.declared.fault.Fault.TheVariants as faults
use Rattle.apl_symbols.specs.declared.primitive.Primitive.{Primitive}
use Rattle.apl_symbols.specs.declared.primitive.Primitive.TheVariants.{Execute}
use Rattle.apl_symbols.specs.declared.system.SystemName.{SystemName}
use Rattle.apl_symbols.specs.declared.system.SystemName.TheVariants as systems
use Rattle.apl_code.specs.declared.row.Function.{Function}
use Rattle.apl_code.specs.declared.row.Function.TheVariants as functions
use Rattle.apl_code.specs.declared.row.Variable.{Variable}
use Rattle.apl_code.specs.declared.row.Variable.TheVariants.{Name, System}
use Rattle.apl_code.specs.declared.row.Row.{Row}
use Rattle.apl_code.specs.declared.row.Row.TheVariants.{Index, Read, Call as CallRow, Monadic, Dyadic, Assign, AssignIndexed, Show}
use Rattle.apl_primitives.specs.Taken.{Taken, One, Two, ListAndOne}
use Rattle.apl_primitives.specs.Values.{phrase_value}
use Rattle.apl_select.specs.Assignment.{assigned}
use Rattle.apl_defn.specs.Definitions.{Text, Definition}
use Rattle.apl_names.specs.declared.binding.Binding.{Binding}
use Rattle.apl_names.specs.declared.binding.Binding.TheVariants as bindings
use Rattle.apl_names.specs.Maps.{found}
use Rattle.apl_machine_state.specs.declared.operand.Operand.{Operand}
use Rattle.apl_machine_state.specs.declared.watch.Watch.TheVariants.{Trace}
use Rattle.apl_machine_state.specs.Environment.{Scene, scalar, origin_name, index_origin}
use Rattle.apl_machine_state.specs.Watching.{function_named, is_list, lines_among, numbers_in}
use Rattle.apl_machine_state.specs.Outcomes.{Outcome, Becomes, Makes, Writes, Assigns, SetsOrigin, Enters, Watches, Faults, of_result, taken_of, read_by, read, enters, call_niladic, call_monadic, call_dyadic, called, class_of_items, watched_by, watched, watch, rewatched, rewatch, monadic_with, monadic, dyadic_with, dyadic, assign_by, as_origin, origin_kept, origin_set, assign_one, assign, assigned_result, assign_indexed_by, origin_result, assign_slots, assign_indexed, shown, outcome}
use Rattle.apl_resume.specs.Quiet.{is_execute, is_stop, is_clean_function, IsCleanFunction}
use Rattle.apl_resume.proofs.CleanRows.{IsCleanRow}
use Rattle.apl_resume.proofs.CleanMaps.{AreCleanMaps, IsCleanFound, found-clean}

-- a value, a fault, the trace vector of a function, or a call of a function in which neither stands
abbrev pub IsCleanOutcome : Outcome → Type 0
IsCleanOutcome (Becomes value) = Unit {0}
IsCleanOutcome (Makes slots) = Unit {0}
IsCleanOutcome (Writes value) = Unit {0}
IsCleanOutcome (Assigns name array value) = Unit {0}
IsCleanOutcome (SetsOrigin io value) = Unit {0}
IsCleanOutcome (Enters d a b) = IsCleanFunction d
IsCleanOutcome (Watches Trace name lines) = Unit {0}
IsCleanOutcome (Faults fault) = Unit {0}
IsCleanOutcome other = ⊥

outcome-if : (b : Bool) (x y : Outcome) → IsCleanOutcome x → IsCleanOutcome y → IsCleanOutcome (if b then x else y)
outcome-if true x y h k = h
outcome-if false x y h k = k

result-clean : (r : Result Arr Fault) → IsCleanOutcome (of_result r)
result-clean (Ok a) = tt
result-clean (Err fault) = tt

-- names and calls
read_by-clean : (binding : Option Binding) → IsCleanOutcome (read_by binding)
read_by-clean None = tt
read_by-clean (Some bindings.Unset) = tt
read_by-clean (Some (bindings.Label n)) = tt
read_by-clean (Some (bindings.Value a)) = tt
read_by-clean (Some (bindings.Function d)) = tt

read-clean : (s : Scene) (v : Variable) → IsCleanOutcome (read s v)
read-clean s (Name name) = read_by-clean (found s.maps name)
read-clean s (System systems.Origin) = tt
read-clean s (System name) = tt

enters-clean : (s : Scene) (d : Definition) (a b : Option Arr) → IsCleanFunction d → IsCleanOutcome (enters s d a b)
enters-clean s d a b h = outcome-if (nat_lt s.standing 256) (Enters d a b) (Faults faults.Limit) h tt

niladic-clean : (s : Scene) (binding : Option Binding) → IsCleanFound binding → IsCleanOutcome (call_niladic s binding)
niladic-clean s (Some (bindings.Function d)) h = outcome-if (is_some d.header.right) (Faults faults.Syntax) (enters s d None None) tt (enters-clean s d None None h)
niladic-clean s binding h = tt

called-clean : (s : Scene) (v : Variable) → AreCleanMaps s.maps → IsCleanOutcome (called s v)
called-clean s (System systems.LineCounter) m = tt
called-clean s (System name) m = tt
called-clean s (Name name) m = niladic-clean s (found s.maps name) (found-clean s.maps name m)

call_monadic-clean : (s : Scene) (binding : Option Binding) (b : Arr) → IsCleanFound binding → IsCleanOutcome (call_monadic s binding b)
call_monadic-clean s (Some (bindings.Function d)) b h = outcome-if (is_some d.header.right) (enters s d None (Some b)) (Faults faults.Syntax) (enters-clean s d None (Some b) h) tt
call_monadic-clean s binding b h = tt

call_dyadic-clean : (s : Scene) (binding : Option Binding) (a b : Arr) → IsCleanFound binding → IsCleanOutcome (call_dyadic s binding a b)
call_dyadic-clean s (Some (bindings.Function d)) a b h = outcome-if (is_some d.header.left && is_some d.header.right) (enters s d (Some a) (Some b)) (Faults faults.Syntax) (enters-clean s d (Some a) (Some b) h) tt
call_dyadic-clean s binding a b h = tt

class_of_items-clean : (s : Scene) (items : Items) → IsCleanOutcome (class_of_items s items)
class_of_items-clean s (Numbers numbers) = tt
class_of_items-clean s (Characters text) = tt

-- ⎕TRACE
watched_by-clean : (name : Text) (d : Option Definition) (new : Option (Definition → List ℕ)) → IsCleanOutcome (watched_by Trace name d new)
watched_by-clean name None new = tt
watched_by-clean name (Some d) None = tt
watched_by-clean name (Some d) (Some new) = tt

watched-clean : (s : Scene) (items : Items) (new : Option (Definition → List ℕ)) → IsCleanOutcome (watched s Trace items new)
watched-clean s (Numbers numbers) new = tt
watched-clean s (Characters text) new = watched_by-clean text (function_named s text) new

watch-clean : (s : Scene) (b : Arr) → IsCleanOutcome (watch s Trace b)
watch-clean s b = outcome-if (is_list b) (watched s Trace b.items None) (Faults faults.Rank) (watched-clean s b.items None) tt

rewatched-clean : (s : Scene) (numbers : Option (List ℤ)) (items : Items) → IsCleanOutcome (rewatched s Trace numbers items)
rewatched-clean s None items = tt
rewatched-clean s (Some numbers) items = watched-clean s items (Some (lines_among numbers))

rewatch-clean : (s : Scene) (a b : Arr) → IsCleanOutcome (rewatch s Trace a b)
rewatch-clean s a b = outcome-if (is_list a && is_list b) (rewatched s Trace (numbers_in a.items) b.items) (Faults faults.Rank) (rewatched-clean s (numbers_in a.items) b.items) tt

-- `F B` and `B F B`
primitive-clean : (s : Scene) (f : Primitive) (b : Arr) → not (is_execute f) ≡ true → IsCleanOutcome (monadic_with s (functions.Primitive f) b)
primitive-clean s Execute b h = cc
primitive-clean s f b h = result-clean (phrase_value (Monadic (functions.Primitive f)) (One b) (index_origin s))

system-clean : (s : Scene) (name : SystemName) (b : Arr) → not (is_stop name) ≡ true → IsCleanOutcome (monadic_with s (functions.System name) b)
system-clean s systems.Stop b h = cc
system-clean s systems.Trace b h = watch-clean s b
system-clean s systems.NameClass b h = outcome-if (is_list b) (class_of_items s b.items) (Faults faults.Rank) (class_of_items-clean s b.items) tt
system-clean s name b h = result-clean (phrase_value (Monadic (functions.System name)) (One b) (index_origin s))

monadic_with-clean : (s : Scene) (f : Function) (b : Arr) → is_clean_function f ≡ true → AreCleanMaps s.maps → IsCleanOutcome (monadic_with s f b)
monadic_with-clean s (functions.Primitive f) b h m = primitive-clean s f b h
monadic_with-clean s (functions.Name name) b h m = call_monadic-clean s (found s.maps name) b (found-clean s.maps name m)
monadic_with-clean s (functions.System name) b h m = system-clean s name b h

monadic-clean : (s : Scene) (f : Function) (taken : Taken) → is_clean_function f ≡ true → AreCleanMaps s.maps → IsCleanOutcome (monadic s f taken)
monadic-clean s f (One b) h m = monadic_with-clean s f b h m
monadic-clean s f taken h m = tt

system_dyadic-clean : (s : Scene) (name : SystemName) (a b : Arr) → not (is_stop name) ≡ true → IsCleanOutcome (dyadic_with s (functions.System name) a b)
system_dyadic-clean s systems.Stop a b h = cc
system_dyadic-clean s systems.Trace a b h = rewatch-clean s a b
system_dyadic-clean s name a b h = result-clean (phrase_value (Dyadic (functions.System name)) (Two a b) (index_origin s))

dyadic_with-clean : (s : Scene) (f : Function) (a b : Arr) → is_clean_function f ≡ true → AreCleanMaps s.maps → IsCleanOutcome (dyadic_with s f a b)
dyadic_with-clean s (functions.Primitive f) a b h m = result-clean (phrase_value (Dyadic (functions.Primitive f)) (Two a b) (index_origin s))
dyadic_with-clean s (functions.Name name) a b h m = call_dyadic-clean s (found s.maps name) a b (found-clean s.maps name m)
dyadic_with-clean s (functions.System name) a b h m = system_dyadic-clean s name a b h

dyadic-clean : (s : Scene) (f : Function) (taken : Taken) → is_clean_function f ≡ true → AreCleanMaps s.maps → IsCleanOutcome (dyadic s f taken)
dyadic-clean s f (Two a b) h m = dyadic_with-clean s f a b h m
dyadic-clean s f taken h m = tt

-- assignments
assign_by-clean : (binding : Option Binding) (name : Text) (b : Arr) → IsCleanOutcome (assign_by binding name b)
assign_by-clean None name b = tt
assign_by-clean (Some bindings.Unset) name b = tt
assign_by-clean (Some (bindings.Label n)) name b = tt
assign_by-clean (Some (bindings.Value a)) name b = tt
assign_by-clean (Some (bindings.Function d)) name b = tt

kept-clean : (binding : Option Binding) (n : ℕ) (value : Arr) → IsCleanOutcome (origin_kept binding n value)
kept-clean None n value = tt
kept-clean (Some binding) n value = tt

origin-clean : (s : Scene) (n : Option ℕ) (value : Arr) → IsCleanOutcome (origin_set s n value)
origin-clean s None value = tt
origin-clean s (Some n) value = kept-clean (found s.maps origin_name) n value

assign_one-clean : (s : Scene) (v : Variable) (b : Arr) → IsCleanOutcome (assign_one s v b)
assign_one-clean s (Name name) b = assign_by-clean (found s.maps name) name b
assign_one-clean s (System systems.Origin) b = origin-clean s (as_origin b.items) b
assign_one-clean s (System name) b = tt

assign-clean : (s : Scene) (v : Variable) (taken : Taken) → IsCleanOutcome (assign s v taken)
assign-clean s v (One b) = assign_one-clean s v b
assign-clean s v taken = tt

assigned_result-clean : (name : Text) (r : Result Arr Fault) (value : Arr) → IsCleanOutcome (assigned_result name r value)
assigned_result-clean name (Ok a) value = tt
assigned_result-clean name (Err fault) value = tt

assign_indexed_by-clean : (binding : Option Binding) (name : Text) (slots : List (Option Arr)) (b : Arr) (origin : ℕ) → IsCleanOutcome (assign_indexed_by binding name slots b origin)
assign_indexed_by-clean None name slots b origin = tt
assign_indexed_by-clean (Some bindings.Unset) name slots b origin = tt
assign_indexed_by-clean (Some (bindings.Label n)) name slots b origin = tt
assign_indexed_by-clean (Some (bindings.Value v)) name slots b origin = assigned_result-clean name (assigned v slots b origin) b
assign_indexed_by-clean (Some (bindings.Function d)) name slots b origin = tt

origin_result-clean : (s : Scene) (r : Result Arr Fault) (value : Arr) → IsCleanOutcome (origin_result s r value)
origin_result-clean s (Ok a) value = origin-clean s (as_origin a.items) value
origin_result-clean s (Err fault) value = tt

assign_slots-clean : (s : Scene) (v : Variable) (slots : List (Option Arr)) (b : Arr) → IsCleanOutcome (assign_slots s v slots b)
assign_slots-clean s (Name name) slots b = assign_indexed_by-clean (found s.maps name) name slots b (index_origin s)
assign_slots-clean s (System systems.Origin) slots b = origin_result-clean s (assigned (scalar (index_origin s)) slots b (index_origin s)) b
assign_slots-clean s (System name) slots b = tt

assign_indexed-clean : (s : Scene) (v : Variable) (taken : Taken) → IsCleanOutcome (assign_indexed s v taken)
assign_indexed-clean s v (ListAndOne slots b) = assign_slots-clean s v slots b
assign_indexed-clean s v taken = tt

shown-clean : (taken : Taken) → IsCleanOutcome (shown taken)
shown-clean (One b) = tt
shown-clean taken = tt

pub outcome-clean : (s : Scene) (r : Row) (operands : List (Option Operand)) → IsCleanRow r → AreCleanMaps s.maps → IsCleanOutcome (outcome s r operands)
outcome-clean s (Index n) operands h m = tt
outcome-clean s (Read v) operands h m = read-clean s v
outcome-clean s (CallRow v) operands h m = called-clean s v m
outcome-clean s (Monadic f) operands h m = monadic-clean s f (taken_of operands) h m
outcome-clean s (Dyadic f) operands h m = dyadic-clean s f (taken_of operands) h m
outcome-clean s (Assign v) operands h m = assign-clean s v (taken_of operands)
outcome-clean s (AssignIndexed v) operands h m = assign_indexed-clean s v (taken_of operands)
outcome-clean s Show operands h m = shown-clean (taken_of operands)
outcome-clean s row operands h m = result-clean (phrase_value row (taken_of operands) (index_origin s))
