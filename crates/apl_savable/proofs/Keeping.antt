-- A machine comes to savable states alone.
use Rattle.std.proofs.Common.{◌≡◌, ◌⊎◌, inl, inr, ℕ, zero, suc, ◌-◌, ◌<◌, Bool, true, false, cond, List, [], ◌∷◌, drop, length, take, reverse, Option, Some, None, refl, sym, ap, subst, ◌∙◌, arith, true≢false}
use Rattle.std.specs.Prelude.{Result, Ok, Err, slice_get}
use Rattle.std.specs.Str.{bytes_eq}
use Rattle.apl_arrays.specs.Cells.{Arr}
use Rattle.apl_code.specs.declared.instr.Instr.{Instr}
use Rattle.apl_code.specs.declared.instr.Source.{Source}
use Rattle.apl_code.specs.declared.row.Row.{Row}
use Rattle.apl_code.specs.declared.row.Row.TheVariants.{Index}
use Rattle.apl_code.specs.Instr.{AreInstrs, IsAction, IsInstr}
use Rattle.apl_tokens.specs.declared.token.Token.{Token}
use Rattle.apl_tokens.specs.declared.line.TokenError.{TokenError}
use Rattle.apl_tokens.specs.Tokens.{tokens_of}
use Rattle.apl_listing.specs.declared.stack.Kind.TheVariants as stacked
use Rattle.apl_listing.specs.Kinds.{puts}
use Rattle.apl_translate.specs.declared.form.Form.TheVariants as forms
use Rattle.apl_translate.specs.declared.form.Placed.{Placed}
use Rattle.apl_translate.specs.Binding.{bound_of}
use Rattle.apl_translate.specs.Forms.{forms_after}
use Rattle.apl_translate.specs.Lines.{Line}
use Rattle.apl_translate.specs.Phrase.{phrase, width}
use Rattle.apl_translate.specs.Translation.{Translates, action_of, arguments, ending, held, kind_of, result_of}
use Rattle.apl_translate.proofs.Made.{line_good, translated_each}
use Rattle.apl_defn.specs.Definitions.{Text, Definition, is_line}
use Rattle.apl_names.specs.declared.binding.Binding.{Binding}
use Rattle.apl_names.specs.declared.binding.Binding.TheVariants as bindings
use Rattle.apl_names.specs.Maps.{Map, assigned, found, said}
use Rattle.apl_names.proofs.Maps.{said_with}
use Rattle.apl_order.proofs.Maps.{said-without}
use Rattle.apl_vectors.specs.Vectors.{has_line, vector_of}
use Rattle.apl_machine_state.specs.declared.output.OutLine.{OutLine}
use Rattle.apl_machine_state.specs.declared.operand.Operand.{Operand}
use Rattle.apl_machine_state.specs.declared.operand.Operand.TheVariants.{Slots, Value}
use Rattle.apl_machine_state.specs.declared.watch.Watch.TheVariants.{Stop, Trace}
use Rattle.apl_machine_state.specs.Items.{Awaited, Content, Given, Item, Rest, cells, kind_of_operand, kinds, reduced}
use Rattle.apl_machine_state.specs.Environment.{World, Context, Statement, Call, Execute, environment, is_idle_in, is_suspended, rest_of, scene, with_rest}
use Rattle.apl_machine_state.specs.Reports.{abandoned}
use Rattle.apl_machine_state.specs.Calls.{line_begun}
use Rattle.apl_machine_state.specs.Outcomes.{Outcome, Becomes, Makes, Writes, Assigns, SetsOrigin, Enters, Watches, Executes, Faults}
use Rattle.apl_machine_state.specs.Watching.{lines_array}
use Rattle.apl_machine_state.specs.Changes.{Change, Rests, Moves, Asks, Arrives, change, change_by, change_in, change_of}
use Rattle.apl_machine_state.specs.Texts.{colon_of}
use Rattle.apl_machine_state.specs.State.{State, applied, arrived, comes_to, interrupted, is_idle}
use Rattle.apl_machine_state.specs.Beginning.{begun_by, started}
use Rattle.apl_order.specs.Order.{AreInOrder, HasNoHole, IsAtLine, IsBelow, holes}
use Rattle.apl_order.specs.Kept.{AreGlobals, AreKept, IsKept}
use Rattle.apl_operands.specs.Operands.{fetched}
use Rattle.apl_order.proofs.Keeping as kept
use Rattle.apl_order.proofs.Holes.{holes-replaced}
use Rattle.apl_order.proofs.Standing.{pendent-with}
use Rattle.apl_frames.specs.declared.frame.Stage.{Stage}
use Rattle.apl_frames.specs.declared.frame.Stage.TheVariants.{Ready, Pendent, Emptied}
use Rattle.apl_frames.specs.Flat.{HasKinds, flat_rest, items_at}
use Rattle.apl_frames.proofs.Standing.{AtPhrase, AtEnd, acts}
use Rattle.apl_saved.specs.Rules as rules
use Rattle.apl_saved.specs.Rules.{Calls, HasNoLabel}
use Rattle.apl_parts.specs.Taken.{part_of}
use Rattle.apl_parts.proofs.InOrder.{one-holed}
use Rattle.apl_savable.specs.Savable.{AreSavable, HasCalled, HasCalledIn, IsCalledBy, IsNamed, IsSavable, IsUnderWay}
use Rattle.apl_savable.specs.Promises.{DefinitionsKeepSavable, ErasuresKeepSavable, InterruptsKeepSavable, StatementsKeepSavable, StepsKeepSavable}
use Rattle.apl_savable.proofs.IndexLists.{empty-slots}
use Rattle.apl_savable.proofs.Fits.{line-fits}
use Rattle.apl_savable.proofs.Maps.{SavesWith, all-own, assigned-saves, begun-origin}
use Rattle.apl_savable.proofs.Rights.{AreSlots, IsRight, IsTarget, no-label, outcome-right}
use Rattle.apl_savable.proofs.UnderWay.{awaits-under-way, begun-under-way, given-under-way}
use Rattle.apl_savable.proofs.Changes.{CanBegin, Saves, SavesAll, abandoned-savable, begun-savable, ends-save, line-under-way, line_text, rest-with, returned-savable, saves-with, stopped-savable, with-savable}

-- ---- the next phrase of a line that is under way

-- the phrase behind the first n items: what may become of it
record NextPhrase (text : Text) (rest : Rest) (n : ℕ) (r : Row) : Type 0 where
  pub sources : List (Option Source)
  pub words : IsAction (action_of r)
  pub slots : AreSlots r sources (arguments r (cells (take (width r) (drop n rest.items))))
  pub gives : (o : Operand) → kind_of_operand o ≡ kind_of (result_of r) → puts (action_of r) sources ≡ rules.kind_of o ∷ [] → IsUnderWay text (reduced n r (Given o) rest)
  pub awaits : result_of r ≡ forms.Given → puts (action_of r) sources ≡ stacked.Value ∷ [] → IsUnderWay text (reduced n r Awaited rest)
  pub calls : (content : Content) (above : Context) → Calls (action_of r) (part_of above) → HasCalled (reduced n r content rest) above

zero-one : (n : ℕ) → n ≡ 0 → n ≡ 1 → ⊥
zero-one n a b = let e : ◌≡◌ {A = ℕ} 0 1 = sym a ∙ b in cc

-- a line with a phrase and without a hole is ready
ready-by : (stage : Stage) (cs : List Arr) (ps : List Placed) (st : List Operand) (p : ℕ × Row) → HasKinds stage ps st → holes (items_at stage cs ps st) ≡ 0 → phrase None (kinds (items_at stage cs ps st)) ≡ Some p → stage ≡ Ready
ready-by Ready cs ps st p k h e = refl
ready-by Pendent cs ps st p k h e = absurd (zero-one (holes (items_at Pendent cs ps st)) h (one-holed cs ps st k))
ready-by Emptied cs ps st p k h e = cc

got : (is : List Instr) (k : ℕ) → k < length is → (i : Instr) × (slice_get is k ≡ Some i)
got [] k lt = absurd (omega arith)
got (i ∷ is) zero lt = (i, refl)
got (i ∷ is) (suc k) lt = got is k (omega arith)

one-instr : (is : List Instr) (k : ℕ) (i : Instr) → slice_get is k ≡ Some i → AreInstrs is → IsInstr i
one-instr [] k i e h = cc
one-instr (j ∷ is) zero i e h = let same : j ≡ i = cc in subst IsInstr same h.0
one-instr (j ∷ is) (suc k) i e h = one-instr is k i e h.1

are-slots : (r : Row) (is : List Item) (n : ℕ) (cs : List Arr) (ss : List (Option Source)) (st : List Operand) → phrase None (kinds is) ≡ Some (n, r) → arguments r (cells (take (width r) (drop n is))) ≡ fetched cs ss st → AreSlots r ss (arguments r (cells (take (width r) (drop n is))))
are-slots (Index m) is n cs ss st h e = empty-slots is n m cs ss st h e
are-slots r is n cs ss st h e = tt

line-instrs : (text : Text) (rest : Rest) (u : IsUnderWay text rest) → AreInstrs u.line.code
line-instrs text rest u =
    let f = line-fits text u.tokens u.classes u.read in
    let line = bound_of u.tokens u.classes in
    translated_each u.line.code false line.items (line_good (length line.constants) line.items f.bounded f.there f.known f.named) (subst (λ (l : Line). Translates u.line.code false l.items) u.bound u.stands.translates)

at-phrase : (text : Text) (rest : Rest) (u : IsUnderWay text rest) (i : Instr) (a : AtPhrase u.line i) → u.line.stage ≡ Ready → slice_get u.line.code u.line.done ≡ Some i → NextPhrase text rest a.n a.r
at-phrase text rest u i a e g =
    let f = u.line in
    let P : Rest → Type 0 = λ x. AreSlots a.r i.arguments (arguments a.r (cells (take (width a.r) (drop a.n x.items)))) in
    let done : suc rest.done - 1 ≡ f.done = ap (λ (x : Rest). suc x.done - 1) u.is ∙ minus f.done in
    record {
      sources = i.arguments;
      words = subst IsAction a.acts (one-instr f.code f.done i g (line-instrs text rest u)).words;
      slots = subst P (sym u.is) (are-slots a.r (flat_rest f).items a.n f.bound.constants i.arguments (reverse f.operands) a.chosen a.takes);
      gives = λ o k p. given-under-way text rest u i a o e g k (ap (λ x. puts x i.arguments) a.acts ∙ p);
      awaits = λ k p. awaits-under-way text rest u i a e g k (ap (λ x. puts x i.arguments) a.acts ∙ p);
      calls = λ content above c. record {
        code = f.code;
        translates = subst (λ (x : Rest). Translates f.code false x.bound.items) (sym u.is) u.stands.translates;
        last = i;
        is_last = ap (slice_get f.code) done ∙ g;
        calls = subst (λ x. Calls x (part_of above)) (sym a.acts) c;
      };
    }
  where
    minus : (n : ℕ) → suc n - 1 ≡ n
    minus n = omega arith

no-none : (p : ℕ × Row) → ◌≡◌ {A = Option (ℕ × Row)} None (Some p) → ⊥
no-none p e = cc

some-pair : (p q : ℕ × Row) → Some p ≡ Some q → p ≡ q
some-pair p q e = cc

at-either : (text : Text) (rest : Rest) (u : IsUnderWay text rest) (i : Instr) (p : ℕ × Row) → AtPhrase u.line i ⊎ AtEnd u.line i → u.line.stage ≡ Ready → slice_get u.line.code u.line.done ≡ Some i → phrase None (kinds (flat_rest u.line).items) ≡ Some p → NextPhrase text rest p.0 p.1
at-either text rest u i p (inl a) e g h = subst (λ (q : ℕ × Row). NextPhrase text rest q.0 q.1) (some-pair (a.n, a.r) p (sym a.chosen ∙ h)) (at-phrase text rest u i a e g)
at-either text rest u i p (inr a) e g h = absurd (no-none p (sym a.chosen ∙ h))

next-phrase : (text : Text) (rest : Rest) (u : IsUnderWay text rest) (p : ℕ × Row) → holes rest.items ≡ 0 → phrase None (kinds rest.items) ≡ Some p → NextPhrase text rest p.0 p.1
next-phrase text rest u p none h =
    let f = u.line in
    let here : phrase None (kinds (flat_rest f).items) ≡ Some p = ap (λ (x : Rest). phrase None (kinds x.items)) (sym u.is) ∙ h in
    let ready : f.stage ≡ Ready = ready-by f.stage f.bound.constants (forms_after f.done f.bound.items) (reverse f.operands) p u.stands.kinds (ap (λ (x : Rest). holes x.items) (sym u.is) ∙ none) here in
    let i = got f.code f.done u.stands.runs in
    at-either text rest u i.0 p (acts f i.0 u.stands ready i.1) ready i.1 here

-- ---- phrases

puts-value : (r : Row) (ss : List (Option Source)) → result_of r ≡ forms.Given → puts (action_of r) ss ≡ stacked.Value ∷ []
puts-value (Index n) ss g = cc
puts-value r ss g = refl

with-environment : (w : World) (rest : Rest) (c : Context) (below : List Context) → environment w (with_rest rest c ∷ below) ≡ environment w (c ∷ below)
with-environment w rest (Statement text was) below = refl
with-environment w rest (Call d n locals was) below = refl
with-environment w rest (Execute text was) below = refl

gives-value : (c : Context) (below : List Context) (rest : Rest) (n : ℕ) (r : Row) (a : Arr) → NextPhrase (line_text c) rest n r → result_of r ≡ forms.Given → AreSavable (c ∷ below) → AreSavable (with_rest (reduced n r (Given (Value a)) rest) c ∷ below)
gives-value c below rest n r a x g h = with-savable (reduced n r (Given (Value a)) rest) c below (x.gives (Value a) (ap kind_of (sym g)) (puts-value r x.sources g)) h

awaits-value : (c : Context) (below : List Context) (rest : Rest) (n : ℕ) (r : Row) → NextPhrase (line_text c) rest n r → result_of r ≡ forms.Given → AreSavable (c ∷ below) → AreSavable (with_rest (reduced n r Awaited rest) c ∷ below)
awaits-value c below rest n r x g h = with-savable (reduced n r Awaited rest) c below (x.awaits g (puts-value r x.sources g)) h

is-called : (c : Context) (below : List Context) (rest : Rest) (n : ℕ) (r : Row) (above : Context) → NextPhrase (line_text c) rest n r → Calls (action_of r) (part_of above) → IsCalledBy above (with_rest (reduced n r Awaited rest) c ∷ below)
is-called c below rest n r above x h = subst (λ o. HasCalledIn o above) (sym (rest-with (reduced n r Awaited rest) c)) (x.calls Awaited above h)

phrase-saves : (w : World) (c : Context) (below : List Context) (rest : Rest) (n : ℕ) (r : Row) (o : Outcome) → NextPhrase (line_text c) rest n r → ((x : NextPhrase (line_text c) rest n r) → IsRight (scene w (c ∷ below)) r x.sources o)
    → holes rest.items ≡ 0 → IsAtLine c → IsBelow c below → AreGlobals w.globals → Saves w (c ∷ below) → SavesAll (change_by w c below rest n r o)
phrase-saves w c below rest n r (Becomes value) x f none at b g h = saves-with w _ _ h (gives-value c below rest n r value x (f x) h.savable)
phrase-saves w c below rest n r (Makes slots) x f none at b g h =
    let i = f x in
    saves-with w _ _ h (with-savable (reduced n r (Given (Slots slots)) rest) c below (x.gives (Slots slots) (ap kind_of (sym i.0)) (ap (λ a. puts a x.sources) i.1 ∙ ap (λ e. stacked.Slots e ∷ []) (sym i.2))) h.savable)
phrase-saves w c below rest n r (Writes value) x f none at b g h = saves-with w _ _ h (gives-value c below rest n r value x (f x) h.savable)
phrase-saves w c below rest n r (Assigns name array value) x f none at b g h =
    let next : Rest = reduced n r (Given (Value value)) rest in
    let same : environment w (with_rest next c ∷ below) ≡ environment w (c ∷ below) = with-environment w next c below in
    let held = assigned-saves w name array (with_rest next c ∷ below) g h.named (gives-value c below rest n r value x (f x).0 h.savable) (subst (λ (ms : List Map). IsTarget (found ms name) name array) (sym same) (f x).1) in
    let all : SavesWith (assigned (environment w (c ∷ below)) name (bindings.Value array)) (with_rest next c ∷ below) = subst (λ (ms : List Map). SavesWith (assigned ms name (bindings.Value array)) (with_rest next c ∷ below)) same held in
    record { origin = h.origin; named = all.named; savable = all.savable }
phrase-saves w c below rest n r (SetsOrigin io value) x f none at b g h = record { origin = (f x).1; named = h.named; savable = gives-value c below rest n r value x (f x).0 h.savable }
phrase-saves w c below rest n r (Enters d a e) x f none at b g h =
    let i = f x in (
      saves-with w _ _ h (awaits-value c below rest n r x i.0 h.savable),
      record {
        pendent = pendent-with (reduced n r Awaited rest) c below (holes-replaced n r Awaited rest.items none) at b;
        origin = begun-origin (scene w (c ∷ below)) d a e h.origin i.1;
        called = is-called c below rest n r (Call d 0 [] None) x i.2;
      },
    )
phrase-saves w c below rest n r (Watches Stop name lines) x f none at b g h = λ value. saves-with w _ _ h (gives-value c below rest n r value x (f x) h.savable)
phrase-saves w c below rest n r (Watches Trace name lines) x f none at b g h = λ value. record { origin = h.origin; named = h.named; savable = gives-value c below rest n r value x (f x) h.savable }
phrase-saves w c below rest n r (Executes text tokens) x f none at b g h =
    let i = f x in
    let line = line_begun w (c ∷ below) tokens in
    saves-with w _ _ h ((i.2, begun-under-way w (c ∷ below) text tokens i.1), is-called c below rest n r (Execute text line) x (i.3 line), awaits-value c below rest n r x i.0 h.savable)
phrase-saves w c below rest n r (Faults fault) x f none at b g h = saves-with w _ (abandoned (c ∷ below)) h (abandoned-savable (c ∷ below) h.savable)

change-of-saves : (w : World) (c : Context) (below : List Context) (rest : Rest) (p : Option (ℕ × Row)) → phrase None (kinds rest.items) ≡ p → rest_of c ≡ Some rest → holes rest.items ≡ 0 → IsAtLine c → IsBelow c below → AreGlobals w.globals → AreKept (c ∷ below) → Saves w (c ∷ below) → SavesAll (change_of w c below rest p)
change-of-saves w c below rest (Some p) q e none at b g k h =
    phrase-saves w c below rest p.0 p.1 _ (next-phrase (line_text c) rest (line-under-way c rest e h.savable.0) p none q)
    (λ x. outcome-right (scene w (c ∷ below)) p.1 x.sources (arguments p.1 (cells (take (width p.1) (drop p.0 rest.items)))) x.words (all-own w (c ∷ below) g k) x.slots) none at b g h
change-of-saves w c below rest None q e none at b g k h = ends-save w c below rest (ending rest.assigned (kinds rest.items)) (held (cells rest.items)) b h

change-in-saves : (w : World) (c : Context) (below : List Context) (rest : Option Rest) → rest_of c ≡ rest → HasNoHole rest → IsAtLine c → IsBelow c below → AreGlobals w.globals → AreKept (c ∷ below) → Saves w (c ∷ below) → SavesAll (change_in w c below rest)
change-in-saves w c below None e none at b g k h = tt
change-in-saves w c below (Some rest) e none at b g k h = change-of-saves w c below rest (phrase None (kinds rest.items)) refl e none at b g k h

change-saves : (w : World) (contexts : List Context) → AreInOrder contexts → AreGlobals w.globals → AreKept contexts → Saves w contexts → SavesAll (change w contexts)
change-saves w [] o g k h = tt
change-saves w (c ∷ below) o g k h = change-in-saves w c below (rest_of c) refl o.1 o.0 o.2 g k h

-- ---- steps

abbrev SavesState : State → Type 0
SavesState s = Saves s.world s.contexts

comes-saves : (t : Bool) (s : State) (w : World) (d : Definition) (n : ℕ) (locals : Map) (below : List Context) (lines : List OutLine) (ended : Bool) → Saves w below → CanBegin d locals below → SavesState (comes_to t s w d n locals below lines ended).state
comes-saves true s w d n locals below lines ended h c = saves-with w below _ h (stopped-savable d n locals below c h.savable)
comes-saves false s w d n locals below lines ended h c = saves-with w below _ h (begun-savable w d n locals below c h.savable)

arrived-saves : (t : Bool) (s : State) (w : World) (d : Definition) (n : ℕ) (locals : Map) (below : List Context) (lines : List OutLine) (ended : Bool) → Saves w below → CanBegin d locals below → SavesState (arrived t s w d n locals below lines ended).state
arrived-saves true s w d n locals below lines ended h c = comes-saves (has_line d.header.name n s.stops) s w d n locals below lines ended h c
arrived-saves false s w d n locals below lines ended h c = saves-with w below _ h (returned-savable d locals below c.pendent h.savable)

applied-saves : (s : State) (c : Change) → SavesState s → SavesAll c → SavesState (applied s c).state
applied-saves s Rests h k = h
applied-saves s (Moves w contexts lines ended) h k = k
applied-saves s (Asks Stop w name lines given) h k = k (lines_array (vector_of name s.stops))
applied-saves s (Asks Trace w name lines given) h k = k (lines_array (vector_of name w.traces))
applied-saves s (Arrives w d n locals below lines ended) h k = arrived-saves (is_line d n) s w d n locals below lines ended k.0 k.1

-- what is kept, and what is saved
savable-of : (s : State) → IsKept s → SavesState s → IsSavable s
savable-of s k h = record { kept = k; origin = h.origin; named = h.named; contexts = h.savable }

state-saves : (s : State) → IsSavable s → SavesState s
state-saves s h = record { origin = h.origin; named = h.named; savable = h.contexts }

pub step-savable : StepsKeepSavable
step-savable s h =
    let k = h.kept.keeps in
    savable-of _ (kept.step-keeps s h.kept) (applied-saves s (change s.world s.contexts) (state-saves s h) (change-saves s.world s.contexts h.kept.order k.globals k.kept (state-saves s h)))

-- ---- what else becomes of a state

interrupted-saves : (t : Bool) (s : State) → SavesState s → SavesState (interrupted t s)
interrupted-saves true s h = h
interrupted-saves false s h = saves-with s.world s.contexts (abandoned s.contexts) h (abandoned-savable s.contexts h.savable)

pub interrupt-savable : InterruptsKeepSavable
interrupt-savable s h = savable-of _ (kept.interrupt-keeps s h.kept) (interrupted-saves (is_idle s) s (state-saves s h))

suspended-called : (o : Option Rest) (above : Context) → is_suspended o ≡ true → HasCalledIn o above
suspended-called None above e = tt
suspended-called (Some rest) above e = absurd (true≢false (sym e))

idle-called : (contexts : List Context) (above : Context) → is_idle_in contexts ≡ true → IsCalledBy above contexts
idle-called [] above e = tt
idle-called (c ∷ below) above e = suspended-called (rest_of c) above e

started-saves : (s : State) (text : Text) (tokens : List Token) (colon : Option ℕ) → is_idle s ≡ true → tokens_of text ≡ Ok tokens → colon_of tokens ≡ colon → SavesState s → SavesState (started s text tokens colon)
started-saves s text tokens (Some at) idle e c h = h
started-saves s text tokens None idle e c h =
    let line = line_begun s.world s.contexts tokens in
    record {
      origin = h.origin;
      named = h.named;
      savable = ((record { tokens = tokens; read = e; unlabelled = no-label tokens c }, begun-under-way s.world s.contexts text tokens e), idle-called s.contexts (Statement text line) idle, h.savable);
    }

begun-by-saves : (s : State) (text : Text) (x : Result (List Token) TokenError) → is_idle s ≡ true → tokens_of text ≡ x → SavesState s → SavesState (begun_by s text x)
begun-by-saves s text (Ok tokens) idle e h = started-saves s text tokens (colon_of tokens) idle e refl h
begun-by-saves s text (Err error) idle e h = h

pub statement-savable : StatementsKeepSavable
statement-savable s text idle h = savable-of _ (kept.statement-keeps s text idle h.kept) (begun-by-saves s text (tokens_of text) idle refl (state-saves s h))

function-named : (d : Definition) (q : Text) (b : Bool) (o : Option Binding) → IsNamed q o → IsNamed q (cond b (Some (bindings.Function d)) o)
function-named d q true o h = tt
function-named d q false o h = h

pub definition-savable : DefinitionsKeepSavable
definition-savable s d defined h = record {
  kept = kept.definition-keeps s d defined h.kept;
  origin = h.origin;
  named = λ q. subst (IsNamed q) (sym (said_with d.header.name (bindings.Function d) s.world.globals q)) (function-named d q (bytes_eq d.header.name q) (said s.world.globals q) (h.named q));
  contexts = h.contexts;
}

none-named : (q : Text) (b : Bool) (o : Option Binding) → IsNamed q o → IsNamed q (cond b None o)
none-named q true o h = tt
none-named q false o h = h

pub erasure-savable : ErasuresKeepSavable
erasure-savable s n h = record {
  kept = kept.erasure-keeps s n h.kept;
  origin = h.origin;
  named = λ q. subst (IsNamed q) (sym (said-without n s.world.globals q h.kept.keeps.globals.ascend)) (none-named q (bytes_eq n q) (said s.world.globals q) (h.named q));
  contexts = h.contexts;
}
