-- What is kept by steps, interrupts, statements, definitions and erasures.
use Rattle.std.proofs.Common.{◌≡◌, ℕ, suc, ◌<◌, ◌≤◌, Bool, true, false, cond, List, [], ◌∷◌, map, Option, Some, None, refl, sym, ap, subst, ◌∙◌, arith}
use Rattle.std.specs.Prelude.{Result, Ok, Err, if◌then◌else◌}
use Rattle.std.specs.Option.{option_or}
use Rattle.std.specs.Map.{lookup}
use Rattle.std.specs.Str.{bytes_eq}
use Rattle.apl_arrays.specs.Cells.{Arr}
use Rattle.apl_code.specs.declared.row.Row.{Row}
use Rattle.apl_code.specs.declared.row.Ending.{Ending}
use Rattle.apl_code.specs.declared.row.Ending.TheVariants.{Branch, Escape, Shown, Hidden, Nothing}
use Rattle.apl_format.specs.Display.{display}
use Rattle.apl_tokens.specs.declared.token.Token.{Token}
use Rattle.apl_tokens.specs.declared.line.TokenError.{TokenError}
use Rattle.apl_tokens.specs.Tokens.{tokens_of}
use Rattle.apl_translate.specs.Phrase.{phrase}
use Rattle.apl_translate.specs.Translation.{held, ending}
use Rattle.apl_translate.specs.Binding.{names_of}
use Rattle.apl_defn.specs.Definitions.{Text, Definition, is_line, line_of}
use Rattle.apl_defn.specs.Defining.{IsDefined}
use Rattle.apl_names.specs.declared.binding.Binding.{Binding}
use Rattle.apl_names.specs.declared.binding.Binding.TheVariants as bindings
use Rattle.apl_names.specs.Maps.{Map, Text as Name, assigned, found, function_in, last_map, said, with_entry, without_entry}
use Rattle.apl_names.proofs.Texts.{same}
use Rattle.apl_names.proofs.Maps.{said_with, with_map}
use Rattle.apl_vectors.specs.Vectors.{Vectors, after_asking, has_line, vector_of, with_vector, without_vector}
use Rattle.apl_machine_state.specs.declared.output.OutLine.{OutLine}
use Rattle.apl_machine_state.specs.declared.operand.Operand.{Operand}
use Rattle.apl_machine_state.specs.declared.operand.Operand.TheVariants.{Value}
use Rattle.apl_machine_state.specs.declared.watch.Watch.TheVariants.{Stop, Trace}
use Rattle.apl_machine_state.specs.Items.{Item, Rest, Given, Awaited, answered, kinds, cells, reduced}
use Rattle.apl_machine_state.specs.Environment.{World, Context, Statement, Call, Execute, behind_statement, class_of, environment, rest_of, scene, standing, with_rest}
use Rattle.apl_machine_state.specs.Reports.{abandoned}
use Rattle.apl_machine_state.specs.Calls.{answered_by, answered_in, begun_line, begun_of, given_to, result_of, returned}
use Rattle.apl_machine_state.specs.Outcomes.{Outcome, Becomes, Makes, Writes, Assigns, SetsOrigin, Enters, Watches, Executes, Faults}
use Rattle.apl_machine_state.specs.Watching.{arrow, lines_array, traced}
use Rattle.apl_machine_state.specs.Changes.{Change, Rests, Moves, Asks, Arrives, aim, branch, branch_to, change, change_at_end, change_by, change_in, change_of, escape_to, leads_nowhere, line_end, resumed}
use Rattle.apl_machine_state.specs.Texts.{colon_of}
use Rattle.apl_machine_state.specs.State.{State, applied, arrived, comes_to, interrupted, is_idle}
use Rattle.apl_machine_state.specs.Beginning.{begun_by, started}
use Rattle.apl_order.specs.Kept.{AreGlobals, AreKept, AreLines, AreVectors, IsCallMap, IsKeptContext, IsObject, IsOfLine, IsOfText, IsVectorOf, Keeps, ClearIsKept, DefinitionsKeep, ErasuresKeep, InterruptsKeep, StatementsKeep, StepsKeep}
use Rattle.apl_order.proofs.Maps.{said-without, without-map}
use Rattle.apl_order.proofs.Vectors.{listed-with, listed-without, unless_empty, with-ascends, without-ascends}
use Rattle.apl_order.proofs.Outcomes.{AreNew, IsFit, outcome-fit}
use Rattle.apl_order.proofs.CallMaps.{IsNoFunction, begun-map, call-function}
use Rattle.apl_order.proofs.Assigned.{assigned-keeps, filled, origin-assignable}
use Rattle.apl_order.proofs.Steps as order

-- ---- contexts

-- not too many stand, and their lines and maps are kept
abbrev Fine : List Context → Type 0
Fine contexts = (standing contexts ≤ 256) × AreKept contexts

keeps-with : (w : World) (stops : Vectors) (old contexts : List Context) → Keeps w stops old → Fine contexts → Keeps w stops contexts
keeps-with w stops old contexts h f = record { few = f.0; kept = f.1; globals = h.globals; traced = h.traced; stopped = h.stopped }

fine-of : (w : World) (stops : Vectors) (contexts : List Context) → Keeps w stops contexts → Fine contexts
fine-of w stops contexts h = (h.few, h.kept)

same-line : (text : Text) (rest old : Rest) → rest.bound ≡ old.bound → IsOfText text old → IsOfText text rest
same-line text rest old e h = record { tokens = h.tokens; read = h.read; classes = h.classes; bound = e ∙ h.bound }

-- another rest of the same line
with-kept : (rest : Rest) (context : Context) (old : Rest) → rest_of context ≡ Some old → rest.bound ≡ old.bound → IsKeptContext context → IsKeptContext (with_rest rest context)
with-kept rest (Statement text was) old e b h = let is : old ≡ was = cc in same-line text rest was (b ∙ ap (λ (r : Rest). r.bound) is) h
with-kept rest (Call d n locals was) old e b h = (h.0, h.1, same-line (line_of d n) rest old b (subst (IsOfLine (line_of d n)) e h.2))
with-kept rest (Execute text was) old e b h = let is : old ≡ was = cc in same-line text rest was (b ∙ ap (λ (r : Rest). r.bound) is) h

with-standing : (rest : Rest) (context : Context) (below : List Context) → standing (with_rest rest context ∷ below) ≡ standing (context ∷ below)
with-standing rest (Statement text was) below = refl
with-standing rest (Call d n locals was) below = refl
with-standing rest (Execute text was) below = refl

with-environment : (w : World) (rest : Rest) (context : Context) (below : List Context) → environment w (with_rest rest context ∷ below) ≡ environment w (context ∷ below)
with-environment w rest (Statement text was) below = refl
with-environment w rest (Call d n locals was) below = refl
with-environment w rest (Execute text was) below = refl

with-fine : (rest : Rest) (context : Context) (below : List Context) (old : Rest) → rest_of context ≡ Some old → rest.bound ≡ old.bound → Fine (context ∷ below) → Fine (with_rest rest context ∷ below)
with-fine rest context below old e b h = (subst (λ n. n ≤ 256) (sym (with-standing rest context below)) h.0, (with-kept rest context old e b h.1.0, h.1.1))

below-fine : (context : Context) (below : List Context) → Fine (context ∷ below) → Fine below
below-fine (Statement text rest) below h = (h.0, h.1.1)
below-fine (Call d n locals rest) below h = let few : suc (standing below) ≤ 256 = h.0 in (omega arith, h.1.1)
below-fine (Execute text rest) below h = let few : suc (standing below) ≤ 256 = h.0 in (omega arith, h.1.1)

abandoned-fine : (contexts : List Context) → Fine contexts → Fine (abandoned contexts)
abandoned-fine [] h = h
abandoned-fine (Statement text rest ∷ below) h = below-fine (Statement text rest) below h
abandoned-fine (Call d n locals rest ∷ below) h = (h.0, ((h.1.0.0, h.1.0.1, tt), h.1.1))
abandoned-fine (Execute text rest ∷ below) h = abandoned-fine below (below-fine (Execute text rest) below h)

behind-fine : (contexts : List Context) → Fine contexts → Fine (behind_statement contexts)
behind-fine [] h = h
behind-fine (Statement text rest ∷ below) h = below-fine (Statement text rest) below h
behind-fine (Call d n locals rest ∷ below) h = behind-fine below (below-fine (Call d n locals rest) below h)
behind-fine (Execute text rest ∷ below) h = behind-fine below (below-fine (Execute text rest) below h)

-- ---- answers

answered-fine : (context : Context) (below : List Context) (rest : Rest) (r : Result (List Item) ℕ) → rest_of context ≡ Some rest → Fine (context ∷ below) → Fine (answered_by context below rest r).contexts
answered-fine context below rest (Ok items) e h = with-fine (record rest { items = items }) context below rest e refl h
answered-fine context below rest (Err at) e h = abandoned-fine (context ∷ below) h

answered-in-fine : (answer : Option Arr) (context : Context) (below : List Context) (rest : Option Rest) → rest_of context ≡ rest → Fine (context ∷ below) → Fine (answered_in answer context below rest).contexts
answered-in-fine answer context below None e h = h
answered-in-fine answer context below (Some rest) e h = answered-fine context below rest (answered answer rest.items) e h

given-fine : (answer : Option Arr) (contexts : List Context) → Fine contexts → Fine (given_to contexts answer).contexts
given-fine answer [] h = h
given-fine answer (context ∷ below) h = answered-in-fine answer context below (rest_of context) refl h

returned-fine : (d : Definition) (locals : Map) (below : List Context) → Fine below → Fine (returned d locals below).contexts
returned-fine d locals below h = given-fine (result_of d.header.result locals) below h

-- ---- lines begin

begun-of-text : (w : World) (contexts : List Context) (text : Text) (r : Result (List Token) TokenError) → tokens_of text ≡ r → IsOfLine text (begun_of w contexts r)
begun-of-text w contexts text (Ok tokens) e = record { tokens = tokens; read = e; classes = map (class_of w contexts) (names_of tokens); bound = refl }
begun-of-text w contexts text (Err error) e = tt

begun-fine : (w : World) (d : Definition) (n : ℕ) (locals : Map) (below : List Context) → standing below < 256 → IsDefined d → IsCallMap d locals → Fine below → Fine (begun_line w d n locals below)
begun-fine w d n locals below few defined is h =
    let above : List Context = Call d n locals None ∷ below in
    (omega arith, ((defined, is, begun-of-text w above (line_of d n) (tokens_of (line_of d n)) refl), h.1))

stopped-fine : (d : Definition) (n : ℕ) (locals : Map) (below : List Context) → standing below < 256 → IsDefined d → IsCallMap d locals → Fine below → Fine (Call d n locals None ∷ below)
stopped-fine d n locals below few defined is h = (omega arith, ((defined, is, tt), h.1))

-- ---- changes

-- a call over these contexts can begin
record CanBegin (d : Definition) (locals : Map) (below : List Context) : Type 0 where
  pub few : standing below < 256
  pub defined : IsDefined d
  pub is : IsCallMap d locals

abbrev KeepsAll : Vectors → Change → Type 0
KeepsAll stops Rests = Unit {0}
KeepsAll stops (Moves w contexts lines ended) = Keeps w stops contexts
KeepsAll stops (Asks Stop w name lines given) = (a : Arr) → Keeps w (after_asking name lines stops) (given a)
KeepsAll stops (Asks Trace w name lines given) = (a : Arr) → Keeps (record w { traces = after_asking name lines w.traces }) stops (given a)
KeepsAll stops (Arrives w d n locals below lines ended) = Keeps w stops below × CanBegin d locals below

under-call : (d : Definition) (n : ℕ) (locals : Map) (rest : Option Rest) (below : List Context) → Fine (Call d n locals rest ∷ below) → CanBegin d locals below
under-call d n locals rest below h = let few : suc (standing below) ≤ 256 = h.0 in record { few = omega arith; defined = h.1.0.0; is = h.1.0.1 }

line-end-keeps : (w : World) (stops : Vectors) (context : Context) (below : List Context) (value : Option Arr) (lines : List OutLine) → Keeps w stops (context ∷ below) → KeepsAll stops (line_end w context below value lines)
line-end-keeps w stops (Statement text rest) below value lines h = keeps-with w stops (Statement text rest ∷ below) below h (below-fine (Statement text rest) below (fine-of w stops _ h))
line-end-keeps w stops (Call d n locals rest) below value lines h =
    (keeps-with w stops (Call d n locals rest ∷ below) below h (below-fine (Call d n locals rest) below (fine-of w stops _ h)), under-call d n locals rest below (fine-of w stops _ h))
line-end-keeps w stops (Execute text rest) below value lines h = keeps-with w stops (Execute text rest ∷ below) (given_to below value).contexts h (given-fine value below (below-fine (Execute text rest) below (fine-of w stops _ h)))

keeps-if : (stops : Vectors) (b : Bool) (x y : Change) → KeepsAll stops x → KeepsAll stops y → KeepsAll stops (if b then x else y)
keeps-if stops true x y p q = p
keeps-if stops false x y p q = q

resumed-keeps : (w : World) (stops : Vectors) (contexts : List Context) (aim : Option ℕ) → Keeps w stops contexts → KeepsAll stops (resumed w contexts aim)
resumed-keeps w stops [] aim h = h
resumed-keeps w stops (Statement text rest ∷ below) aim h = h
resumed-keeps w stops (Execute text rest ∷ below) aim h = h
resumed-keeps w stops (Call d n locals rest ∷ below) None h = h
resumed-keeps w stops (Call d n locals rest ∷ below) (Some m) h =
    let all : Fine (Call d n locals rest ∷ below) = fine-of w stops _ h in
    let c = under-call d n locals rest below all in
    let f = below-fine (Call d n locals rest) below all in
    keeps-if stops (is_line d m) _ _ (keeps-with w stops _ (begun_line w d m locals below) h (begun-fine w d m locals below c.few c.defined c.is f)) (keeps-with w stops _ (returned d locals below).contexts h (returned-fine d locals below f))

branch-to-keeps : (w : World) (stops : Vectors) (contexts : List Context) (aim : Option ℕ) (lines : List OutLine) → Keeps w stops contexts → KeepsAll stops (branch_to w contexts aim lines)
branch-to-keeps w stops [] aim lines h = tt
branch-to-keeps w stops (Statement text rest ∷ below) aim lines h = resumed-keeps w stops below aim (keeps-with w stops _ below h (below-fine (Statement text rest) below (fine-of w stops _ h)))
branch-to-keeps w stops (Call d n locals rest ∷ below) aim lines h =
    (keeps-with w stops _ below h (below-fine (Call d n locals rest) below (fine-of w stops _ h)), under-call d n locals rest below (fine-of w stops _ h))
branch-to-keeps w stops (Execute text rest ∷ below) aim lines h = branch-to-keeps w stops below aim lines (keeps-with w stops _ below h (below-fine (Execute text rest) below (fine-of w stops _ h)))

branch-keeps : (nowhere : Bool) (w : World) (stops : Vectors) (contexts : List Context) (rest : Rest) (a : Arr) → Keeps w stops contexts → KeepsAll stops (branch nowhere w contexts rest a)
branch-keeps true w stops contexts rest a h = keeps-with w stops contexts (abandoned contexts) h (abandoned-fine contexts (fine-of w stops _ h))
branch-keeps false w stops contexts rest a h = branch-to-keeps w stops contexts (aim a.items) (traced w contexts arrow (display a)) h

escape-keeps : (w : World) (stops : Vectors) (contexts : List Context) (lines : List OutLine) → Keeps w stops contexts → KeepsAll stops (escape_to w contexts lines)
escape-keeps w stops [] lines h = tt
escape-keeps w stops (Statement text rest ∷ below) lines h = keeps-with w stops _ (behind_statement below) h (behind-fine below (below-fine (Statement text rest) below (fine-of w stops _ h)))
escape-keeps w stops (Call d n locals rest ∷ below) lines h = keeps-with w stops _ (behind_statement below) h (behind-fine below (below-fine (Call d n locals rest) below (fine-of w stops _ h)))
escape-keeps w stops (Execute text rest ∷ below) lines h = escape-keeps w stops below lines (keeps-with w stops _ below h (below-fine (Execute text rest) below (fine-of w stops _ h)))

ends-keep : (w : World) (stops : Vectors) (context : Context) (below : List Context) (rest : Rest) (end : Ending) (held : List (Option Operand)) → Keeps w stops (context ∷ below) → KeepsAll stops (change_at_end w context below rest end held)
ends-keep w stops context below rest Nothing held h = line-end-keeps w stops context below None _ h
ends-keep w stops context below rest Hidden (Some (Value a) ∷ []) h = line-end-keeps w stops context below (Some a) _ h
ends-keep w stops context below rest Shown (Some (Value a) ∷ []) h = line-end-keeps w stops context below (Some a) _ h
ends-keep w stops context below rest Branch (Some (Value a) ∷ []) h = branch-keeps (leads_nowhere a.items) w stops (context ∷ below) rest a h
ends-keep w stops context below rest Escape held h = escape-keeps w stops (context ∷ below) _ h
ends-keep w stops context below rest end held h = keeps-with w stops _ (abandoned (context ∷ below)) h (abandoned-fine (context ∷ below) (fine-of w stops _ h))

-- ---- vectors

pub vector-fits : (d : Definition) (lines : List ℕ) → AreLines d lines → IsVectorOf (Some d) (unless_empty lines)
vector-fits d [] h = tt
vector-fits d (n ∷ ns) h = h

new-vector : (g : Map) (name q : Name) (lines : List ℕ) (d : Definition) (b : Bool) (v : Option (List ℕ)) → bytes_eq name q ≡ b → function_in (said g name) ≡ Some d → AreLines d lines → IsVectorOf (function_in (said g q)) v → IsVectorOf (function_in (said g q)) (cond b (unless_empty lines) v)
new-vector g name q lines d true v e is fit h =
    subst (λ (f : Option Definition). IsVectorOf f (unless_empty lines)) (sym (subst (λ (k : Name). function_in (said g k) ≡ Some d) (same name q e) is)) (vector-fits d lines fit)
new-vector g name q lines d false v e is fit h = h

asked-vectors : (g : Map) (name : Name) (lines : List ℕ) (vectors : Vectors) (d : Definition) → function_in (said g name) ≡ Some d → AreLines d lines → AreVectors g vectors → AreVectors g (with_vector name lines vectors)
asked-vectors g name lines vectors d is fit h = record {
  ascend = with-ascends name lines vectors h.ascend;
  lines = λ q. subst (IsVectorOf (function_in (said g q))) (sym (listed-with name lines vectors q h.ascend)) (new-vector g name q lines d (bytes_eq name q) (lookup (bytes_eq q) vectors) refl is fit (h.lines q));
}

last-global : (w : World) (contexts : List Context) → last_map (environment w contexts) ≡ w.globals
last-global w [] = refl
last-global w (Statement text rest ∷ below) = last-global w below
last-global w (Call d n locals rest ∷ below) = let f = filled w below in ap (λ (ms : List Map). last_map (locals ∷ ms)) f.is ∙ sym (ap last_map f.is) ∙ last-global w below
last-global w (Execute text rest ∷ below) = last-global w below

asked-kept : (w : World) (contexts : List Context) (name : Name) (lines : Option (List ℕ)) (vectors : Vectors) → AreNew (scene w contexts) name lines → AreVectors w.globals vectors → AreVectors w.globals (after_asking name lines vectors)
asked-kept w contexts name None vectors new h = h
asked-kept w contexts name (Some lines) vectors new h = asked-vectors w.globals name lines vectors new.0 (ap (λ (m : Map). function_in (said m name)) (sym (last-global w contexts)) ∙ new.1) new.2 h

-- ---- functions that are called

abbrev IsDefinedIn : Option Binding → Type 0
IsDefinedIn (Some (bindings.Function d)) = IsDefined d
IsDefinedIn o = Unit {0}

object-defined : (q : Name) (o : Option Binding) → IsObject q o → IsDefinedIn (option_or o None)
object-defined q None h = tt
object-defined q (Some bindings.Unset) h = tt
object-defined q (Some (bindings.Label n)) h = tt
object-defined q (Some (bindings.Value a)) h = tt
object-defined q (Some (bindings.Function d)) h = h.1

local-defined : (o p : Option Binding) → IsNoFunction o → IsDefinedIn p → IsDefinedIn (option_or o p)
local-defined None p a b = b
local-defined (Some bindings.Unset) p a b = tt
local-defined (Some (bindings.Label n)) p a b = tt
local-defined (Some (bindings.Value x)) p a b = tt
local-defined (Some (bindings.Function d)) p a b = absurd a

found-defined : (w : World) (contexts : List Context) (q : Name) → AreGlobals w.globals → AreKept contexts → IsDefinedIn (found (environment w contexts) q)
found-defined w [] q g h = object-defined q (said w.globals q) (g.objects q)
found-defined w (Statement text rest ∷ below) q g h = found-defined w below q g h.1
found-defined w (Call d n locals rest ∷ below) q g h = local-defined (said locals q) (found (environment w below) q) (call-function d locals q h.0.1) (found-defined w below q g h.1)
found-defined w (Execute text rest ∷ below) q g h = found-defined w below q g h.1

-- ---- phrases

phrase-keeps : (w : World) (stops : Vectors) (context : Context) (below : List Context) (rest : Rest) (n : ℕ) (row : Row) (o : Outcome) → rest_of context ≡ Some rest → IsFit (scene w (context ∷ below)) o
    → Keeps w stops (context ∷ below) → KeepsAll stops (change_by w context below rest n row o)
phrase-keeps w stops context below rest n row (Becomes value) e fit h = keeps-with w stops _ _ h (with-fine _ context below rest e refl (fine-of w stops _ h))
phrase-keeps w stops context below rest n row (Makes slots) e fit h = keeps-with w stops _ _ h (with-fine _ context below rest e refl (fine-of w stops _ h))
phrase-keeps w stops context below rest n row (Writes value) e fit h = keeps-with w stops _ _ h (with-fine _ context below rest e refl (fine-of w stops _ h))
phrase-keeps w stops context below rest n row (Assigns name array value) e fit h =
    let next : Rest = reduced n row (Given (Value value)) rest in
    let same_maps : environment w (with_rest next context ∷ below) ≡ environment w (context ∷ below) = with-environment w next context below in
    assigned-keeps w stops name array (assigned (environment w (context ∷ below)) name (bindings.Value array)) (with_rest next context ∷ below)
    (keeps-with w stops _ _ h (with-fine next context below rest e refl (fine-of w stops _ h)))
    (subst (λ (ms : List Map). IsFit (record (scene w (context ∷ below)) { maps = ms }) (Assigns name array value)) (sym same_maps) fit)
    (ap (λ (ms : List Map). assigned ms name (bindings.Value array)) (sym same_maps))
phrase-keeps w stops context below rest n row (SetsOrigin io value) e fit h =
    let f : Fine (with_rest (reduced n row (Given (Value value)) rest) context ∷ below) = with-fine (reduced n row (Given (Value value)) rest) context below rest e refl (fine-of w stops _ h) in
    record { few = f.0; kept = f.1; globals = h.globals; traced = h.traced; stopped = h.stopped }
phrase-keeps w stops context below rest n row (Enters d a b) e fit h =
    let next : Rest = reduced n row Awaited rest in
    let few : standing (with_rest next context ∷ below) < 256 = subst (λ k. k < 256) (sym (with-standing next context below)) fit.0 in (
      keeps-with w stops _ _ h (with-fine next context below rest e refl (fine-of w stops _ h)),
      record { few = few; defined = subst IsDefinedIn fit.1.1 (found-defined w (context ∷ below) fit.1.0 h.globals h.kept); is = begun-map (scene w (context ∷ below)) d a b },
    )
phrase-keeps w stops context below rest n row (Watches Stop name lines) e fit h = λ value.
    let f : Fine (with_rest (reduced n row (Given (Value value)) rest) context ∷ below) = with-fine (reduced n row (Given (Value value)) rest) context below rest e refl (fine-of w stops _ h) in
    record { few = f.0; kept = f.1; globals = h.globals; traced = h.traced; stopped = asked-kept w (context ∷ below) name lines stops fit h.stopped }
phrase-keeps w stops context below rest n row (Watches Trace name lines) e fit h = λ value.
    let f : Fine (with_rest (reduced n row (Given (Value value)) rest) context ∷ below) = with-fine (reduced n row (Given (Value value)) rest) context below rest e refl (fine-of w stops _ h) in
    record { few = f.0; kept = f.1; globals = h.globals; traced = asked-kept w (context ∷ below) name lines w.traces fit h.traced; stopped = h.stopped }
phrase-keeps w stops context below rest n row (Executes text tokens) e fit h =
    let next : Rest = reduced n row Awaited rest in
    let f : Fine (with_rest next context ∷ below) = with-fine next context below rest e refl (fine-of w stops _ h) in
    let few : standing (with_rest next context ∷ below) < 256 = subst (λ k. k < 256) (sym (with-standing next context below)) fit.0 in
    keeps-with w stops _ _ h (omega arith, (record { tokens = tokens; read = fit.1; classes = map (class_of w (context ∷ below)) (names_of tokens); bound = refl }, f.1))
phrase-keeps w stops context below rest n row (Faults fault) e fit h = keeps-with w stops _ (abandoned (context ∷ below)) h (abandoned-fine (context ∷ below) (fine-of w stops _ h))

change-of-keeps : (w : World) (stops : Vectors) (context : Context) (below : List Context) (rest : Rest) (p : Option (ℕ × Row)) → rest_of context ≡ Some rest → Keeps w stops (context ∷ below) → KeepsAll stops (change_of w context below rest p)
change-of-keeps w stops context below rest (Some p) e h =
    phrase-keeps w stops context below rest p.0 p.1 _ e (outcome-fit (scene w (context ∷ below)) p.1 _ (origin-assignable w (context ∷ below) h.globals h.kept)) h
change-of-keeps w stops context below rest None e h = ends-keep w stops context below rest (ending rest.assigned (kinds rest.items)) (held (cells rest.items)) h

change-in-keeps : (w : World) (stops : Vectors) (context : Context) (below : List Context) (rest : Option Rest) → rest_of context ≡ rest → Keeps w stops (context ∷ below) → KeepsAll stops (change_in w context below rest)
change-in-keeps w stops context below None e h = tt
change-in-keeps w stops context below (Some rest) e h = change-of-keeps w stops context below rest (phrase None (kinds rest.items)) e h

change-keeps : (w : World) (stops : Vectors) (contexts : List Context) → Keeps w stops contexts → KeepsAll stops (change w contexts)
change-keeps w stops [] h = tt
change-keeps w stops (context ∷ below) h = change-in-keeps w stops context below (rest_of context) refl h

-- ---- steps

abbrev KeepsState : State → Type 0
KeepsState s = Keeps s.world s.stops s.contexts

comes-keeps : (b : Bool) (s : State) (w : World) (d : Definition) (n : ℕ) (locals : Map) (below : List Context) (lines : List OutLine) (ended : Bool) → Keeps w s.stops below → CanBegin d locals below → KeepsState (comes_to b s w d n locals below lines ended).state
comes-keeps true s w d n locals below lines ended h c = keeps-with w s.stops below _ h (stopped-fine d n locals below c.few c.defined c.is (fine-of w s.stops below h))
comes-keeps false s w d n locals below lines ended h c = keeps-with w s.stops below _ h (begun-fine w d n locals below c.few c.defined c.is (fine-of w s.stops below h))

arrived-keeps : (b : Bool) (s : State) (w : World) (d : Definition) (n : ℕ) (locals : Map) (below : List Context) (lines : List OutLine) (ended : Bool) → Keeps w s.stops below → CanBegin d locals below → KeepsState (arrived b s w d n locals below lines ended).state
arrived-keeps true s w d n locals below lines ended h c = comes-keeps (has_line d.header.name n s.stops) s w d n locals below lines ended h c
arrived-keeps false s w d n locals below lines ended h c = keeps-with w s.stops below _ h (returned-fine d locals below (fine-of w s.stops below h))

applied-keeps : (s : State) (c : Change) → KeepsState s → KeepsAll s.stops c → KeepsState (applied s c).state
applied-keeps s Rests h k = h
applied-keeps s (Moves w contexts lines ended) h k = k
applied-keeps s (Asks Stop w name lines given) h k = k (lines_array (vector_of name s.stops))
applied-keeps s (Asks Trace w name lines given) h k = k (lines_array (vector_of name w.traces))
applied-keeps s (Arrives w d n locals below lines ended) h k = arrived-keeps (is_line d n) s w d n locals below lines ended k.0 k.1

pub step-keeps : StepsKeep
step-keeps s h = record { order = order.step-order s h.order; keeps = applied-keeps s (change s.world s.contexts) h.keeps (change-keeps s.world s.stops s.contexts h.keeps) }

-- ---- what else becomes of a state

interrupted-keeps : (b : Bool) (s : State) → KeepsState s → KeepsState (interrupted b s)
interrupted-keeps true s h = h
interrupted-keeps false s h = keeps-with s.world s.stops s.contexts (abandoned s.contexts) h (abandoned-fine s.contexts (fine-of s.world s.stops s.contexts h))

pub interrupt-keeps : InterruptsKeep
interrupt-keeps s h = record { order = order.interrupt-order s h.order; keeps = interrupted-keeps (is_idle s) s h.keeps }

started-keeps : (s : State) (text : Text) (tokens : List Token) (colon : Option ℕ) → tokens_of text ≡ Ok tokens → KeepsState s → KeepsState (started s text tokens colon)
started-keeps s text tokens (Some at) e h = h
started-keeps s text tokens None e h = record {
  few = h.few;
  kept = (record { tokens = tokens; read = e; classes = map (class_of s.world s.contexts) (names_of tokens); bound = refl }, h.kept);
  globals = h.globals;
  traced = h.traced;
  stopped = h.stopped;
}

begun-by-keeps : (s : State) (text : Text) (r : Result (List Token) TokenError) → tokens_of text ≡ r → KeepsState s → KeepsState (begun_by s text r)
begun-by-keeps s text (Ok tokens) e h = started-keeps s text tokens (colon_of tokens) e h
begun-by-keeps s text (Err error) e h = h

pub statement-keeps : StatementsKeep
statement-keeps s text idle h = record { order = order.statement-order s text idle h.order; keeps = begun-by-keeps s text (tokens_of text) refl h.keeps }

function-object : (d : Definition) (q : Name) (b : Bool) (o : Option Binding) → bytes_eq d.header.name q ≡ b → IsDefined d → IsObject q o → IsObject q (cond b (Some (bindings.Function d)) o)
function-object d q true o e defined h = (same d.header.name q e, defined)
function-object d q false o e defined h = h

function-vector : (d : Definition) (b : Bool) (o : Option Binding) (v : Option (List ℕ)) → IsVectorOf (function_in o) v → IsVectorOf (function_in (cond b (Some (bindings.Function d)) o)) (cond b None v)
function-vector d true o v h = tt
function-vector d false o v h = h

defined-vectors : (d : Definition) (g : Map) (vectors : Vectors) → AreVectors g vectors → AreVectors (with_entry d.header.name (bindings.Function d) g) (without_vector d.header.name vectors)
defined-vectors d g vectors h = record {
  ascend = without-ascends d.header.name vectors h.ascend;
  lines = λ q. subst (λ (o : Option Binding). IsVectorOf (function_in o) (lookup (bytes_eq q) (without_vector d.header.name vectors))) (sym (said_with d.header.name (bindings.Function d) g q))
      (subst (IsVectorOf (function_in (cond (bytes_eq d.header.name q) (Some (bindings.Function d)) (said g q)))) (sym (listed-without d.header.name vectors q h.ascend)) (function-vector d (bytes_eq d.header.name q) (said g q) (lookup (bytes_eq q) vectors) (h.lines q)));
}

pub definition-keeps : DefinitionsKeep
definition-keeps s d defined h = record {
  order = h.order;
  keeps = record {
    few = h.keeps.few;
    kept = h.keeps.kept;
    globals = record {
      ascend = with_map d.header.name (bindings.Function d) s.world.globals h.keeps.globals.ascend;
      objects = λ q. subst (IsObject q) (sym (said_with d.header.name (bindings.Function d) s.world.globals q)) (function-object d q (bytes_eq d.header.name q) (said s.world.globals q) refl defined (h.keeps.globals.objects q));
    };
    traced = defined-vectors d s.world.globals s.world.traces h.keeps.traced;
    stopped = defined-vectors d s.world.globals s.stops h.keeps.stopped;
  };
}

none-object : (q : Name) (b : Bool) (o : Option Binding) → IsObject q o → IsObject q (cond b None o)
none-object q true o h = tt
none-object q false o h = h

none-vector : (b : Bool) (o : Option Binding) (v : Option (List ℕ)) → IsVectorOf (function_in o) v → IsVectorOf (function_in (cond b None o)) (cond b None v)
none-vector true o v h = tt
none-vector false o v h = h

erased-vectors : (n : Name) (g : Map) (vectors : Vectors) → AreGlobals g → AreVectors g vectors → AreVectors (without_entry n g) (without_vector n vectors)
erased-vectors n g vectors m h = record {
  ascend = without-ascends n vectors h.ascend;
  lines = λ q. subst (λ (o : Option Binding). IsVectorOf (function_in o) (lookup (bytes_eq q) (without_vector n vectors))) (sym (said-without n g q m.ascend))
      (subst (IsVectorOf (function_in (cond (bytes_eq n q) None (said g q)))) (sym (listed-without n vectors q h.ascend)) (none-vector (bytes_eq n q) (said g q) (lookup (bytes_eq q) vectors) (h.lines q)));
}

pub erasure-keeps : ErasuresKeep
erasure-keeps s n h = record {
  order = h.order;
  keeps = record {
    few = h.keeps.few;
    kept = h.keeps.kept;
    globals = record {
      ascend = without-map n s.world.globals h.keeps.globals.ascend;
      objects = λ q. subst (IsObject q) (sym (said-without n s.world.globals q h.keeps.globals.ascend)) (none-object q (bytes_eq n q) (said s.world.globals q) (h.keeps.globals.objects q));
    };
    traced = erased-vectors n s.world.globals s.world.traces h.keeps.globals h.keeps.traced;
    stopped = erased-vectors n s.world.globals s.stops h.keeps.globals h.keeps.stopped;
  };
}

pub clear-kept : ClearIsKept
clear-kept = record {
  order = tt;
  keeps = record {
    few = omega arith;
    kept = tt;
    globals = record { ascend = tt; objects = λ q. tt };
    traced = record { ascend = tt; lines = λ q. tt };
    stopped = record { ascend = tt; lines = λ q. tt };
  };
}
