-- Lines that were written before change nothing of what follows.
use Rattle.std.proofs.Common.{◌≡◌, ℕ, zero, suc, ◌==◌, Bool, true, false, List, [], ◌∷◌, ◌++◌, Option, Some, None, Result, Ok, Err, if◌then◌else◌, refl, ap, ◌∙◌}
use Rattle.std.proofs.lemmas.List.{append_assoc}
use Rattle.std.specs.Str.{bytes_eq}
use Rattle.apl_charset.specs.Decoding.{decoded}
use Rattle.apl_faults.specs.declared.fault.Fault.{Fault}
use Rattle.apl_faults.specs.declared.fault.Fault.TheVariants.{Character, Command as CommandFault, Defn, Interrupt as InterruptFault}
use Rattle.apl_faults.specs.Report.{name_of}
use Rattle.apl_tokens.specs.declared.line.TokenError.{TokenError}
use Rattle.apl_tokens.specs.declared.token.Token.{Token}
use Rattle.apl_tokens.specs.Tokens.{tokens_of}
use Rattle.apl_defn.specs.declared.error.DefnError.{DefnError}
use Rattle.apl_defn.specs.Blanks.{trimmed}
use Rattle.apl_defn.specs.Definitions.{Text, Header, Definition, is_line}
use Rattle.apl_defn.specs.Defining.{defined_of}
use Rattle.apl_defn.specs.Reading.{header_of}
use Rattle.apl_vectors.specs.Vectors.{after_asking, has_line, vector_of}
use Rattle.apl_names.specs.Maps.{Map}
use Rattle.apl_machine_state.specs.declared.output.Blame.TheVariants as blame
use Rattle.apl_machine_state.specs.declared.output.LineKind.TheVariants.{Report}
use Rattle.apl_machine_state.specs.declared.output.OutLine.{OutLine}
use Rattle.apl_machine_state.specs.Beginning.{begun_by, started, token_fault}
use Rattle.apl_machine_state.specs.Calls.{begun_line, returned}
use Rattle.apl_machine_state.specs.declared.watch.Watch.TheVariants.{Stop, Trace}
use Rattle.apl_machine_state.specs.Changes.{Change, Rests, Moves, Asks, Arrives, change}
use Rattle.apl_machine_state.specs.Environment.{World, Context, Call, nearest}
use Rattle.apl_machine_state.specs.Objects.{erased, without_global}
use Rattle.apl_machine_state.specs.Reports.{abandoned, fault_lines, lines_of}
use Rattle.apl_machine_state.specs.State.{State, Turn, applied, arrived, comes_to, definition_of, interrupt, interrupted, is_global_variable, is_idle, moved, step, steps, stop_report, turn, with_function, with_lines}
use Rattle.apl_machine_state.specs.Texts.{colon_of}
use Rattle.apl_machine_state.specs.Watching.{lines_array}
use Rattle.apl_session.specs.declared.commands.Command.{Command}
use Rattle.apl_session.specs.declared.commands.Command.TheVariants.{StateIndicator, Functions, Variables, Erase, Clear}
use Rattle.apl_session.specs.Commands.{before_blank, command_of, erasing, from_blank, names_in, obeyed, ordered, words_of}
use Rattle.apl_session.specs.Defining.{added, behind_mark, closed, defined_by, del, kept, opened, opened_by, refused, shown, shown_name, shown_or_opened}
use Rattle.apl_session.specs.Events.{Event, Line, Steps, Interrupt, after, after_event, first_mark, typed, typed_as, typed_behind, typed_in}
use Rattle.apl_kept_sessions.specs.Promises.{behind}

-- the one state is the other, where these lines were written before
record Follows (lines : List OutLine) (s t : State) : Type 0 where
  is : t ≡ behind lines s

either : (R : State → State → Type 0) (b : Bool) {s s' t t' : State} → R s t → R s' t' → R (if b then s else s') (if b then t else t')
either R true p q = p
either R false p q = q

abbrev writing : State → List OutLine → State
writing s output = record s { output = output }

says : (before : List OutLine) (s : State) (lines : List OutLine) → Follows before (with_lines lines s) (with_lines lines (behind before s))
says before s lines = record { is = ap (writing s) (append_assoc before s.output lines) }

refuses : (before : List OutLine) (s : State) (fault : Fault) → Follows before (refused s fault) (refused (behind before s) fault)
refuses before s fault = says before s (lines_of (Report fault blame.Nothing) (name_of fault ∷ []))

-- what writes nothing
stays : (before : List OutLine) (s : State) → Follows before s (behind before s)
stays before s = record { is = refl }

-- ---- definitions

function-defined : (before : List OutLine) (s : State) (d : Definition) → Follows before (with_function d s) (with_function d (behind before s))
function-defined before s d = record { is = refl }

definition-opened : (before : List OutLine) (s : State) (lines : List Text) → Follows before (opened lines s) (opened lines (behind before s))
definition-opened before s lines = record { is = refl }

defines : (before : List OutLine) (s : State) (d : Result Definition DefnError) → Follows before (defined_by s d) (defined_by (behind before s) d)
defines before s (Err e) = refuses before s Defn
defines before s (Ok d) = either (Follows before) (is_global_variable s d.header.name) (refuses before s Defn) (function-defined before s d)

adds : (before : List OutLine) (s : State) (lines : List Text) (line : Text) → Follows before (added s lines line) (added (behind before s) lines line)
adds before s lines line = either (Follows before) (bytes_eq line del) (defines before (closed s) (defined_of lines)) (definition-opened before s (kept lines line))

shows : (before : List OutLine) (s : State) (d : Option Definition) → Follows before (shown s d) (shown (behind before s) d)
shows before s None = refuses before s Defn
shows before s (Some d) = says before s _

opens : (before : List OutLine) (s : State) (text : Text) (h : Result Header DefnError) → Follows before (opened_by s text h) (opened_by (behind before s) text h)
opens before s text (Err e) = refuses before s Defn
opens before s text (Ok h) = either (Follows before) (is_global_variable s h.name) (refuses before s Defn) (definition-opened before s (text ∷ []))

shows_or_opens : (before : List OutLine) (s : State) (text : Text) (name : Option Text) → Follows before (shown_or_opened s text name) (shown_or_opened (behind before s) text name)
shows_or_opens before s text None = opens before s text (header_of text)
shows_or_opens before s text (Some name) = shows before s (definition_of s name)

-- ---- commands

erases : (before : List OutLine) (names : List Text) (s : State) → Follows before (erased names s) (erased names (behind before s))
erases before [] s = record { is = refl }
erases before (name ∷ names) s = erases before names (without_global name s)

erases_named : (before : List OutLine) (s : State) (names : Option (List Text)) → Follows before (erasing s names) (erasing (behind before s) names)
erases_named before s None = refuses before s CommandFault
erases_named before s (Some []) = refuses before s CommandFault
erases_named before s (Some (name ∷ names)) = erases before (name ∷ names) s

obeys : (before : List OutLine) (s : State) (command : Command) → Follows before (obeyed s command) (obeyed (behind before s) command)
obeys before s StateIndicator = says before s _
obeys before s Functions = says before s _
obeys before s Variables = says before s _
obeys before s Erase = refuses before s CommandFault
obeys before s Clear = record { is = refl }

orders : (before : List OutLine) (s : State) (command : Option Command) (words : List Text) → Follows before (ordered s command words) (ordered (behind before s) command words)
orders before s None words = refuses before s CommandFault
orders before s (Some StateIndicator) [] = obeys before s StateIndicator
orders before s (Some Functions) [] = obeys before s Functions
orders before s (Some Variables) [] = obeys before s Variables
orders before s (Some Clear) [] = obeys before s Clear
orders before s (Some Erase) words = erases_named before s (names_in words)
orders before s (Some StateIndicator) (word ∷ words) = refuses before s CommandFault
orders before s (Some Functions) (word ∷ words) = refuses before s CommandFault
orders before s (Some Variables) (word ∷ words) = refuses before s CommandFault
orders before s (Some Clear) (word ∷ words) = refuses before s CommandFault

-- ---- lines

starts : (before : List OutLine) (s : State) (text : Text) (tokens : List Token) (colon : Option ℕ) → Follows before (started s text tokens colon) (started (behind before s) text tokens colon)
starts before s text tokens (Some at) = says before s _
starts before s text tokens None = record { is = refl }

begins : (before : List OutLine) (s : State) (text : Text) (r : Result (List Token) TokenError) → Follows before (begun_by s text r) (begun_by (behind before s) text r)
begins before s text (Ok tokens) = starts before s text tokens (colon_of tokens)
begins before s text (Err error) = says before s (token_fault text error)

types_behind : (before : List OutLine) (s : State) (text : Text) (mark : Option ℕ) → Follows before (typed_behind s text mark) (typed_behind (behind before s) text mark)
types_behind before s text None = begins before s text (tokens_of text)
types_behind before s text (Some mark) =
    either (Follows before) (mark == 41) (orders before s (command_of (before_blank (behind_mark text))) (words_of (from_blank (behind_mark text))))
    (either (Follows before) (mark == 0x2207) (shows_or_opens before s (behind_mark text) (shown_name (behind_mark text))) (begins before s text (tokens_of text)))

types_in : (before : List OutLine) (s : State) (definition : Option (List Text)) (text : Text) → Follows before (typed_in s definition text) (typed_in (behind before s) definition text)
types_in before s None text = types_behind before s text (first_mark text)
types_in before s (Some lines) text = adds before s lines (trimmed text)

types_as : (before : List OutLine) (s : State) (text : Option Text) → Follows before (typed_as s text) (typed_as (behind before s) text)
types_as before s None = refuses before s Character
types_as before s (Some text) = types_in before s s.definition text

types : (before : List OutLine) (s : State) (line : List ℕ) → Follows before (typed s line) (typed (behind before s) line)
types before s line = either (Follows before) (is_idle s) (types_as before s (decoded line)) (stays before s)

-- ---- steps

abbrev pub turn_behind : List OutLine → Turn → Turn
turn_behind before t = record t { state = behind before t.state }

abbrev turned : State → World → List Context → Bool → Bool → List OutLine → Turn
turned s w contexts stopped ended output = record { state = record s { world = w; contexts = contexts; output = output }; stopped = stopped; ended = ended }

moved-behind : (before : List OutLine) (s : State) (w : World) (contexts : List Context) (lines : List OutLine) (ended : Bool)
    → moved (behind before s) w contexts lines ended ≡ turn_behind before (moved s w contexts lines ended)
moved-behind before s w contexts lines ended = ap (turned s w contexts false ended) (append_assoc before s.output lines)

comes-behind : (b : Bool) (before : List OutLine) (s : State) (w : World) (d : Definition) (n : ℕ) (locals : Map) (below : List Context) (lines : List OutLine) (ended : Bool)
    → comes_to b (behind before s) w d n locals below lines ended ≡ turn_behind before (comes_to b s w d n locals below lines ended)
comes-behind true before s w d n locals below lines ended =
    ap (turned s w (Call d n locals None ∷ below) true ended) (append_assoc before s.output (lines ++ stop_report d n ∷ []))
comes-behind false before s w d n locals below lines ended = moved-behind before s w (begun_line w d n locals below) lines ended

arrived-behind : (b : Bool) (before : List OutLine) (s : State) (w : World) (d : Definition) (n : ℕ) (locals : Map) (below : List Context) (lines : List OutLine) (ended : Bool)
    → arrived b (behind before s) w d n locals below lines ended ≡ turn_behind before (arrived b s w d n locals below lines ended)
arrived-behind true before s w d n locals below lines ended = comes-behind (has_line d.header.name n s.stops) before s w d n locals below lines ended
arrived-behind false before s w d n locals below lines ended = moved-behind before s w (returned d locals below).contexts (lines ++ (returned d locals below).lines) ended

applied-behind : (before : List OutLine) (s : State) (c : Change) → applied (behind before s) c ≡ turn_behind before (applied s c)
applied-behind before s Rests = refl
applied-behind before s (Moves w contexts lines ended) = moved-behind before s w contexts lines ended
applied-behind before s (Asks Stop w name lines given) =
    moved-behind before (record s { stops = after_asking name lines s.stops }) w (given (lines_array (vector_of name s.stops))) [] false
applied-behind before s (Asks Trace w name lines given) =
    moved-behind before s (record w { traces = after_asking name lines w.traces }) (given (lines_array (vector_of name w.traces))) [] false
applied-behind before s (Arrives w d n locals below lines ended) = arrived-behind (is_line d n) before s w d n locals below lines ended

pub turn-behind : (before : List OutLine) (s : State) → turn (behind before s) ≡ turn_behind before (turn s)
turn-behind before s = applied-behind before s (change s.world s.contexts)

steps-behind : (n : ℕ) (before : List OutLine) (s : State) → steps n (behind before s) ≡ behind before (steps n s)
steps-behind zero before s = refl
steps-behind (suc n) before s = ap (λ (t : Turn). steps n t.state) (turn-behind before s) ∙ steps-behind n before (step s)

interrupted-behind : (b : Bool) (before : List OutLine) (s : State) → interrupted b (behind before s) ≡ behind before (interrupted b s)
interrupted-behind true before s = refl
interrupted-behind false before s = (says before (record s { contexts = abandoned s.contexts }) (fault_lines InterruptFault 1 (nearest s.contexts))).is

pub interrupt-behind : (before : List OutLine) (s : State) → interrupt (behind before s) ≡ behind before (interrupt s)
interrupt-behind before s = interrupted-behind (is_idle s) before s

-- ---- events

event-behind : (before : List OutLine) (s : State) (event : Event) → after_event (behind before s) event ≡ behind before (after_event s event)
event-behind before s (Line line) = (types before s line).is
event-behind before s (Steps count) = steps-behind count before s
event-behind before s Interrupt = interrupt-behind before s

pub after-behind : (before : List OutLine) (s : State) (events : List Event) → after (behind before s) events ≡ behind before (after s events)
after-behind before s [] = refl
after-behind before s (event ∷ events) = ap (λ (t : State). after t events) (event-behind before s event) ∙ after-behind before (after_event s event) events
