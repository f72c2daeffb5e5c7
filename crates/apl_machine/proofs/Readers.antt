-- What the readers of a machine see of its state, and what defining and interrupting make of it.
use Rattle.std.proofs.Common.{◌≡◌, ℕ, zero, suc, Bool, true, false, List, [], ◌∷◌, drop, length, Option, Some, None, refl, sym, ap, ◌∙◌, arith}
use Rattle.std.specs.Prelude.{slice_get, is_some, if◌then◌else◌, Result, Ok, Err, IfOk}
use Rattle.std.specs.Option.{option_map}
use Rattle.apl_arrays.specs.Cells.{Arr}
use Rattle.apl_names.specs.declared.binding.Binding.{Binding}
use Rattle.apl_names.specs.Maps.{Map, Text, assigned, class_in, first_map, found, last_map, said, value_in, with_entry, with_global}
use Rattle.apl_machine_state.specs.declared.output.OutLine.{OutLine}
use Rattle.apl_machine_state.specs.Items.{Rest}
use Rattle.apl_machine_state.specs.Environment as model
use Rattle.apl_machine_state.specs.Environment.{World, class_of, environment, rest_at, scene}
use Rattle.apl_defn.specs.Definitions.{Definition, is_line}
use Rattle.apl_machine_state.specs.Calls.{begun_line, call_map}
use Rattle.apl_machine_state.specs.Changes.{Moves, branch_to, escape_to, line_from, resumed, returns}
use Rattle.apl_machine_state.specs.State.{State, applied, arrived, comes_to, value_of}
use Rattle.apl_vectors.specs.Vectors.{has_line}
use Rattle.apl_frames.specs.Flat.{flat_rest}
use Rattle.apl_contexts.specs.declared.context.Context.{Context}
use Rattle.apl_contexts.specs.declared.context.Context.TheVariants.{Statement, Call, Execute}
use Rattle.apl_contexts.specs.Contexts.{call_in, calls, dressed, line_in, rest_in, under}
use Rattle.apl_machine.specs.Changes.{ended}
use Rattle.apl_machine.specs.Executing.{executes}
use Rattle.apl_machine.specs.Spaces.{Space, IsSound, IsStatement, arrival, awaiting_in, branched_in, called_in, state_of, world_of}
use Rattle.apl_machine.proofs.Environments.{env_is}
use Rattle.apl_machine.proofs.There.{IsThere}
use Rattle.apl_machine.specs.Worlds.{Settings, world_at}

-- what follows for a result
pub then_ok : {A E : Type 0} {P Q : A → Type 0} (r : Result A E) → ((x : A) → P x → Q x) → IfOk r P → IfOk r Q
then_ok (Ok x) f h = f x h
then_ok (Err e) f h = tt

env_of : (s : Space) → IsSound s → environment (state_of s).world (state_of s).contexts ≡ s.maps
env_of s h = env_is s.maps s.kept s.contexts h.contexts.as_many

pub class_reads : (s : Space) (t : State) (name : Text) → IsSound s → state_of s ≡ t → class_in (found s.maps name) ≡ class_of t.world t.contexts name
class_reads s t name h e = ap (λ (ns : List Map). class_in (found ns name)) (sym (env_of s h)) ∙ ap (λ (u : State). class_of u.world u.contexts name) e

pub value_reads : (s : Space) (t : State) (name : Text) → IsSound s → state_of s ≡ t → value_in (found s.maps name) ≡ value_of t name
value_reads s t name h e = ap (λ (ns : List Map). value_in (found ns name)) (sym (env_of s h)) ∙ ap (λ (u : State). value_of u name) e

-- the global map lies under those of the calls
pub last_under : (ms : List Map) (cs : List Context) → length ms ≡ suc (calls cs) → last_map ms ≡ under ms cs
last_under [] [] e = refl
last_under (m ∷ []) [] e = refl
last_under (m ∷ k ∷ ms) [] e = cc
last_under ms (Statement s ∷ cs) e = last_under ms cs e
last_under [] (Call c ∷ cs) e = cc
last_under (m ∷ []) (Call c ∷ cs) e = cc
last_under (m ∷ k ∷ ms) (Call c ∷ cs) e = last_under (k ∷ ms) cs (omega arith)
last_under ms (Execute s ∷ cs) e = last_under ms cs e

pub global_reads : (s : Space) (t : State) (name : Text) → IsSound s → state_of s ≡ t → said (last_map s.maps) name ≡ said t.world.globals name
global_reads s t name h e = ap (λ (m : Map). said m name) (last_under s.maps s.contexts h.contexts.as_many) ∙ ap (λ (u : State). said u.world.globals name) e

-- ---- lines that are being done

abbrev pub rest_got : Option Context → Option Rest
rest_got None = None
rest_got (Some c) = option_map flat_rest (rest_in c)

rest_is : (ms : List Map) (cs : List Context) (k : ℕ) → rest_at (dressed ms cs) k ≡ rest_got (slice_get cs k)
rest_is ms [] k = refl
rest_is ms (Statement s ∷ cs) zero = refl
rest_is ms (Call c ∷ cs) zero = refl
rest_is ms (Execute s ∷ cs) zero = refl
rest_is ms (Statement s ∷ cs) (suc k) = rest_is ms cs k
rest_is ms (Call c ∷ cs) (suc k) = rest_is (drop 1 ms) cs k
rest_is ms (Execute s ∷ cs) (suc k) = rest_is ms cs k

pub rest_reads : (s : Space) (t : State) (k : ℕ) (o : Option Context) → state_of s ≡ t → o ≡ slice_get s.contexts k → rest_at t.contexts k ≡ rest_got o
rest_reads s t k o e g = ap (λ (u : State). rest_at u.contexts k) (sym e) ∙ rest_is s.maps s.contexts k ∙ ap rest_got (sym g)

-- ---- the global map changes

pub length_global : (n : Text) (b : Binding) (ms : List Map) → length (with_global n b ms) ≡ length ms
length_global n b [] = refl
length_global n b (m ∷ []) = refl
length_global n b (m ∷ k ∷ ms) = ap suc (length_global n b (k ∷ ms))

first_global : (n : Text) (b : Binding) (m k : Map) (ms : List Map) → first_map (with_global n b (m ∷ k ∷ ms)) ≡ m
first_global n b m k ms = refl

pub dressed_global : (n : Text) (b : Binding) (ms : List Map) (cs : List Context) → length ms ≡ suc (calls cs) → dressed (with_global n b ms) cs ≡ dressed ms cs
dressed_global n b ms [] e = refl
dressed_global n b ms (Statement s ∷ cs) e = ap (λ (ds : List model.Context). model.Statement s.text (flat_rest s.line) ∷ ds) (dressed_global n b ms cs e)
dressed_global n b [] (Call c ∷ cs) e = cc
dressed_global n b (m ∷ []) (Call c ∷ cs) e = cc
dressed_global n b (m ∷ k ∷ ms) (Call c ∷ cs) e = ap (λ (ds : List model.Context). model.Call c.definition c.at m (option_map flat_rest c.rest) ∷ ds) (dressed_global n b (k ∷ ms) cs (omega arith))
dressed_global n b ms (Execute s ∷ cs) e = ap (λ (ds : List model.Context). model.Execute s.text (flat_rest s.line) ∷ ds) (dressed_global n b ms cs e)

pub under_global : (n : Text) (b : Binding) (ms : List Map) (cs : List Context) → length ms ≡ suc (calls cs) → under (with_global n b ms) cs ≡ with_entry n b (under ms cs)
under_global n b [] [] e = cc
under_global n b (m ∷ []) [] e = refl
under_global n b (m ∷ k ∷ ms) [] e = cc
under_global n b ms (Statement s ∷ cs) e = under_global n b ms cs e
under_global n b [] (Call c ∷ cs) e = cc
under_global n b (m ∷ []) (Call c ∷ cs) e = cc
under_global n b (m ∷ k ∷ ms) (Call c ∷ cs) e = under_global n b (k ∷ ms) cs (omega arith)
under_global n b ms (Execute s ∷ cs) e = under_global n b ms cs e

-- ---- an assignment adds no map

pub length_assigned : (ms : List Map) (n : Text) (b : Binding) → length (assigned ms n b) ≡ length ms
length_assigned [] n b = refl
length_assigned (m ∷ []) n b = refl
length_assigned (m ∷ k ∷ ms) n b = length_choice (is_some (said m n)) m k ms n b (length_assigned (k ∷ ms) n b)
  where
    length_choice : (x : Bool) (m k : Map) (ms : List Map) (n : Text) (b : Binding) → length (assigned (k ∷ ms) n b) ≡ length (k ∷ ms) → length (if x then with_entry n b m ∷ k ∷ ms else m ∷ assigned (k ∷ ms) n b) ≡ length (m ∷ k ∷ ms)
    length_choice true m k ms n b h = refl
    length_choice false m k ms n b h = ap suc h

-- ---- what steps come to

-- where a call comes to a line, or returns, its line has ended
arrived_ends : (line : Bool) (s : State) (w : World) (d : Definition) (n : ℕ) (locals : Map) (below : List model.Context) (lines : List OutLine) → (arrived line s w d n locals below lines true).ended ≡ true
arrived_ends true s w d n locals below lines = by_stop (has_line d.header.name n s.stops)
  where
    by_stop : (stop : Bool) → (comes_to stop s w d n locals below lines true).ended ≡ true
    by_stop true = refl
    by_stop false = refl
arrived_ends false s w d n locals below lines = refl

pub arrival_ends : (s : State) (ms : List Map) (kept : Settings) (cs : List Context) (n : ℕ) (lines : List OutLine) → is_some (call_in cs) ≡ true → (arrival s ms kept cs n lines).ended ≡ true
arrival_ends s ms kept [] n lines h = cc
arrival_ends s ms kept (Statement q ∷ cs) n lines h = cc
arrival_ends s ms kept (Call c ∷ cs) n lines h = arrived_ends (is_line c.definition n) s (world_at ms kept (Call c ∷ cs)) c.definition n (first_map ms) (dressed (drop 1 ms) cs) lines
arrival_ends s ms kept (Execute q ∷ cs) n lines h = arrival_ends s ms kept cs n lines h

-- a call that begins ends no line
call_goes : (line : Bool) (s : State) (w : World) (d : Definition) (n : ℕ) (locals : Map) (below : List model.Context) (lines : List OutLine) → (arrived line s w d n locals below lines false).ended ≡ false
call_goes true s w d n locals below lines = by_stop (has_line d.header.name n s.stops)
  where
    by_stop : (stop : Bool) → (comes_to stop s w d n locals below lines false).ended ≡ false
    by_stop true = refl
    by_stop false = refl
call_goes false s w d n locals below lines = refl

pub called_goes : (s : Space) (d : Definition) (a b : Option Arr) (left : ℕ) → (called_in s d a b left).ended ≡ false
called_goes s d a b left = call_goes (is_line d 1) (state_of s) (world_of s) d 1 (call_map (scene (world_of s) (dressed s.maps s.contexts)) d a b) (awaiting_in s left) []

-- a typed branch ends its line, and comes to no stop
by_test : (line : Bool) (s : State) (w : World) (contexts : List model.Context) (d : Definition) (locals : Map) (below : List model.Context) → ((applied s (if line then Moves w contexts [] true else returns w d locals below [] true)).ended ≡ true) × ((applied s (if line then Moves w contexts [] true else returns w d locals below [] true)).stopped ≡ false)
by_test true s w contexts d locals below = (refl, refl)
by_test false s w contexts d locals below = (refl, refl)

typed_ends : (s : State) (ms : List Map) (kept : Settings) (cs : List Context) (aim : Option ℕ) → ((applied s (resumed (world_at ms kept cs) (dressed ms cs) aim)).ended ≡ true) × ((applied s (resumed (world_at ms kept cs) (dressed ms cs) aim)).stopped ≡ false)
typed_ends s ms kept [] aim = (refl, refl)
typed_ends s ms kept (Statement r ∷ cs) aim = (refl, refl)
typed_ends s ms kept (Execute r ∷ cs) aim = (refl, refl)
typed_ends s ms kept (Call c ∷ cs) None = (refl, refl)
typed_ends s ms kept (Call c ∷ cs) (Some m) = by_test (is_line c.definition m) s (world_at ms kept (Call c ∷ cs)) (begun_line (world_at ms kept (Call c ∷ cs)) c.definition m (first_map ms) (dressed (drop 1 ms) cs)) c.definition (first_map ms) (dressed (drop 1 ms) cs)

pub branch_ends : (s : State) (ms : List Map) (kept : Settings) (cs : List Context) (aim : Option ℕ) (lines : List OutLine) → IsThere cs → (applied s (branch_to (world_at ms kept cs) (dressed ms cs) aim lines)).ended ≡ true
branch_ends s ms kept [] aim lines h = absurd h
branch_ends s ms kept (Statement q ∷ cs) aim lines h = (typed_ends s ms kept cs aim).0
branch_ends s ms kept (Call c ∷ cs) aim lines h = arrived_ends (is_line c.definition (line_from c.at aim)) s (world_at ms kept (Call c ∷ cs)) c.definition (line_from c.at aim) (first_map ms) (dressed (drop 1 ms) cs) lines
branch_ends s ms kept (Execute q ∷ cs) aim lines h = branch_ends s ms kept cs aim lines h

branch_goes_on : (s : State) (ms : List Map) (kept : Settings) (cs : List Context) (aim : Option ℕ) (lines : List OutLine) → IsStatement cs → false ≡ (applied s (branch_to (world_at ms kept cs) (dressed ms cs) aim lines)).stopped
branch_goes_on s ms kept [] aim lines h = absurd h
branch_goes_on s ms kept (Statement q ∷ cs) aim lines h = sym (typed_ends s ms kept cs aim).1
branch_goes_on s ms kept (Call c ∷ cs) aim lines h = absurd h
branch_goes_on s ms kept (Execute q ∷ cs) aim lines h = branch_goes_on s ms kept cs aim lines h

pub branch_goes : (s : Space) (aim : Option ℕ) (lines : List OutLine) → IsStatement s.contexts → false ≡ (branched_in s aim lines).stopped
branch_goes s aim lines h = branch_goes_on (state_of s) s.maps s.kept s.contexts aim lines h

pub end_ends : (s : State) (ms : List Map) (kept : Settings) (cs : List Context) (lines : List OutLine) → executes cs ≡ false → is_some (line_in cs) ≡ true → (applied s (ended (world_at ms kept cs) (dressed ms cs) None lines)).ended ≡ true
end_ends s ms kept [] lines b h = cc
end_ends s ms kept (Statement q ∷ cs) lines b h = refl
end_ends s ms kept (Call c ∷ cs) lines b h = arrived_ends (is_line c.definition (suc c.at)) s (world_at ms kept (Call c ∷ cs)) c.definition (suc c.at) (first_map ms) (dressed (drop 1 ms) cs) lines
end_ends s ms kept (Execute q ∷ cs) lines b h = cc

pub escape_ends : (s : State) (ms : List Map) (kept : Settings) (cs : List Context) (lines : List OutLine) → IsThere cs → ((applied s (escape_to (world_at ms kept cs) (dressed ms cs) lines)).stopped ≡ false) × ((applied s (escape_to (world_at ms kept cs) (dressed ms cs) lines)).ended ≡ true)
escape_ends s ms kept [] lines h = absurd h
escape_ends s ms kept (Statement q ∷ cs) lines h = (refl, refl)
escape_ends s ms kept (Call c ∷ cs) lines h = (refl, refl)
escape_ends s ms kept (Execute q ∷ cs) lines h = escape_ends s ms kept cs lines h

-- the end of a text that is executed ends no line
pub answer_goes : (s : State) (ms : List Map) (kept : Settings) (cs : List Context) (value : Option Arr) → executes cs ≡ true → ((applied s (ended (world_at ms kept cs) (dressed ms cs) value [])).stopped ≡ false) × ((applied s (ended (world_at ms kept cs) (dressed ms cs) value [])).ended ≡ false)
answer_goes s ms kept [] value e = cc
answer_goes s ms kept (Statement q ∷ cs) value e = cc
answer_goes s ms kept (Call c ∷ cs) value e = cc
answer_goes s ms kept (Execute q ∷ cs) value e = (refl, refl)
