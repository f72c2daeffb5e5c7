-- What was written before stays first, and changes nothing else.
use Rattle.std.proofs.Common.{◌≡◌, ℕ, zero, suc, List, [], ◌∷◌, ◌++◌, Option, Some, None, Result, Ok, Err, Bool, true, false, cond, ap, ◌∙◌, sym, refl, append_assoc, append-nil, ◌==◌, if◌then◌else◌}
use Rattle.std.specs.Str.{bytes_eq}
use Rattle.apl_charset.specs.Text.{bytes}
use Rattle.apl_charset.specs.Decoding.{decoded}
use Rattle.apl_tokens.specs.declared.token.Token.{Token}
use Rattle.apl_tokens.specs.declared.line.TokenError.{TokenError}
use Rattle.apl_tokens.specs.Tokens.{tokens_of}
use Rattle.apl_machine_state.specs.declared.output.OutLine.{OutLine}
use Rattle.apl_defn.specs.Definitions.{Text, Definition, Header, is_line}
use Rattle.apl_defn.specs.Blanks.{trimmed}
use Rattle.apl_defn.specs.declared.error.DefnError.{DefnError}
use Rattle.apl_defn.specs.Reading.{header_of}
use Rattle.apl_defn.specs.Defining.{defined_of}
use Rattle.apl_defn.specs.Listing.{listed}
use Rattle.apl_names.specs.Maps.{Map}
use Rattle.apl_machine_state.specs.Environment.{World, Context, Call}
use Rattle.apl_machine_state.specs.Calls.{begun_line, returned}
use Rattle.apl_machine_state.specs.declared.output.Blame.TheVariants as blame
use Rattle.apl_machine_state.specs.declared.output.LineKind.TheVariants.{Answer, Report}
use Rattle.apl_machine_state.specs.Reports.{lines_of}
use Rattle.apl_machine_state.specs.declared.watch.Watch.TheVariants.{Stop, Trace}
use Rattle.apl_machine_state.specs.Changes.{Change, Rests, Moves, Asks, Arrives, change}
use Rattle.apl_machine_state.specs.State.{State, Turn, turn, is_idle, step, steps, interrupt, applied, arrived, comes_to, stop_report, with_lines, interrupted, definition_of, is_global_variable, with_function}
use Rattle.apl_machine_state.specs.Objects.{erased, without_global}
use Rattle.apl_machine_state.specs.Watching.{lines_array}
use Rattle.apl_vectors.specs.Vectors.{after_asking, has_line, vector_of}
use Rattle.apl_machine_state.specs.Beginning.{begun, begun_by, started}
use Rattle.apl_machine_state.specs.Texts.{colon_of}
use Rattle.apl_session.specs.Events.{Event, Line, Steps, Interrupt, after, after_event, typed_as, typed_in, typed_behind, first_mark}
use Rattle.apl_session.specs.declared.commands.Command.{Command}
use Rattle.apl_session.specs.declared.commands.Command.TheVariants.{StateIndicator, Functions, Variables, Erase, Clear}
use Rattle.apl_session.specs.Commands.{before_blank, from_blank, words_of, command_of, names_in, erasing, obeyed, ordered, commanded}
use Rattle.apl_session.specs.Defining.{refused, closed, opened, behind_mark, shown_name, shown, opened_by, shown_or_opened, typed_behind_del, del, kept, defined_by, added}
use Rattle.apl_faults.specs.declared.fault.Fault.{Fault}
use Rattle.apl_faults.specs.declared.fault.Fault.TheVariants.{Defn, Character, Command as CommandFault}
use Rattle.apl_faults.specs.Report.{name_of}
use Rattle.apl_resume.specs.Cut.{after_stop, cut_steps, resume_line, resumed}
use Rattle.apl_resume.proofs.Stops.{applied-stops}
use Rattle.apl_runs.specs.Ways.{IsInOrder}
use Rattle.apl_runs.specs.Output.{written, silent}
use Rattle.apl_runs.specs.Sessions.{on_session, line_events}
use Rattle.apl_runs.specs.Manners.{does, way}
use Rattle.apl_runs.specs.declared.manner.Manner.{Manner}
use Rattle.apl_runs.specs.declared.manner.Manner.TheVariants.{Plain, Answered}

-- the state with these lines in prefix of its output
abbrev pub behind : List OutLine → State → State
behind prefix s = record s { output = prefix ++ s.output }

lines-behind : (prefix : List OutLine) (s : State) (lines : List OutLine) → with_lines lines (behind prefix s) ≡ behind prefix (with_lines lines s)
lines-behind prefix s lines = ap (λ (o : List OutLine). record s { output = o }) (append_assoc prefix s.output lines)

refused-behind : (prefix : List OutLine) (s : State) (fault : Fault) → refused (behind prefix s) fault ≡ behind prefix (refused s fault)
refused-behind prefix s fault = lines-behind prefix s (lines_of (Report fault blame.Nothing) (name_of fault ∷ []))

comes-behind : (prefix : List OutLine) (stops : Bool) (s : State) (w : World) (d : Definition) (n : ℕ) (locals : Map) (below : List Context) (lines : List OutLine) (ended : Bool) →
    (comes_to stops (behind prefix s) w d n locals below lines ended).state ≡ behind prefix (comes_to stops s w d n locals below lines ended).state
comes-behind prefix true s w d n locals below lines ended =
    ap (λ (o : List OutLine). record s { world = w; contexts = Call d n locals None ∷ below; output = o }) (append_assoc prefix s.output (lines ++ stop_report d n ∷ []))
comes-behind prefix false s w d n locals below lines ended = lines-behind prefix (record s { world = w; contexts = begun_line w d n locals below }) lines

arrived-behind : (prefix : List OutLine) (is_there : Bool) (s : State) (w : World) (d : Definition) (n : ℕ) (locals : Map) (below : List Context) (lines : List OutLine) (ended : Bool) →
    (arrived is_there (behind prefix s) w d n locals below lines ended).state ≡ behind prefix (arrived is_there s w d n locals below lines ended).state
arrived-behind prefix true s w d n locals below lines ended = comes-behind prefix (has_line d.header.name n s.stops) s w d n locals below lines ended
arrived-behind prefix false s w d n locals below lines ended =
    lines-behind prefix (record s { world = w; contexts = (returned d locals below).contexts }) (lines ++ (returned d locals below).lines)

applied-behind : (prefix : List OutLine) (s : State) (c : Change) → (applied (behind prefix s) c).state ≡ behind prefix (applied s c).state
applied-behind prefix s Rests = refl
applied-behind prefix s (Moves world contexts lines ended) = lines-behind prefix (record s { world = world; contexts = contexts }) lines
applied-behind prefix s (Asks Stop w name lines given) =
    lines-behind prefix (record s { world = w; stops = after_asking name lines s.stops; contexts = given (lines_array (vector_of name s.stops)) }) []
applied-behind prefix s (Asks Trace w name lines given) =
    lines-behind prefix (record s { world = record w { traces = after_asking name lines w.traces }; contexts = given (lines_array (vector_of name w.traces)) }) []
applied-behind prefix s (Arrives w d n locals below lines ended) = arrived-behind prefix (is_line d n) s w d n locals below lines ended

steps-behind : (prefix : List OutLine) (n : ℕ) (s : State) → steps n (behind prefix s) ≡ behind prefix (steps n s)
steps-behind prefix zero s = refl
steps-behind prefix (suc n) s = ap (steps n) (applied-behind prefix s (change s.world s.contexts)) ∙ steps-behind prefix n (step s)

interrupted-behind : (prefix : List OutLine) (idle : Bool) (s : State) → interrupted idle (behind prefix s) ≡ behind prefix (interrupted idle s)
interrupted-behind prefix true s = refl
interrupted-behind prefix false s = lines-behind prefix _ _

started-behind : (prefix : List OutLine) (s : State) (text : Text) (tokens : List Token) (colon : Option ℕ) → started (behind prefix s) text tokens colon ≡ behind prefix (started s text tokens colon)
started-behind prefix s text tokens (Some at) = lines-behind prefix s _
started-behind prefix s text tokens None = refl

begun_by-behind : (prefix : List OutLine) (s : State) (text : Text) (read : Result (List Token) TokenError) → begun_by (behind prefix s) text read ≡ behind prefix (begun_by s text read)
begun_by-behind prefix s text (Ok tokens) = started-behind prefix s text tokens (colon_of tokens)
begun_by-behind prefix s text (Err error) = lines-behind prefix s _

-- a choice of two states
choose-behind : (prefix : List OutLine) (b : Bool) (x y x' y' : State) → x' ≡ behind prefix x → y' ≡ behind prefix y → cond b x' y' ≡ behind prefix (cond b x y)
choose-behind prefix true x y x' y' e f = e
choose-behind prefix false x y x' y' e f = f

shown-behind : (prefix : List OutLine) (s : State) (function : Option Definition) → shown (behind prefix s) function ≡ behind prefix (shown s function)
shown-behind prefix s None = refused-behind prefix s Defn
shown-behind prefix s (Some d) = lines-behind prefix s (lines_of Answer (listed d))

opened_by-behind : (prefix : List OutLine) (s : State) (text : Text) (read : Result Header DefnError) → opened_by (behind prefix s) text read ≡ behind prefix (opened_by s text read)
opened_by-behind prefix s text (Err error) = refused-behind prefix s Defn
opened_by-behind prefix s text (Ok h) =
    choose-behind prefix (is_global_variable s h.name) (refused s Defn) (opened (text ∷ []) s) (refused (behind prefix s) Defn) (opened (text ∷ []) (behind prefix s))
    (refused-behind prefix s Defn) refl

shown_or_opened-behind : (prefix : List OutLine) (s : State) (text : Text) (name : Option Text) → shown_or_opened (behind prefix s) text name ≡ behind prefix (shown_or_opened s text name)
shown_or_opened-behind prefix s text None = opened_by-behind prefix s text (header_of text)
shown_or_opened-behind prefix s text (Some name) = shown-behind prefix s (definition_of s name)

defined_by-behind : (prefix : List OutLine) (s : State) (defined : Result Definition DefnError) → defined_by (behind prefix s) defined ≡ behind prefix (defined_by s defined)
defined_by-behind prefix s (Err error) = refused-behind prefix s Defn
defined_by-behind prefix s (Ok d) =
    choose-behind prefix (is_global_variable s d.header.name) (refused s Defn) (with_function d s) (refused (behind prefix s) Defn) (with_function d (behind prefix s))
    (refused-behind prefix s Defn) refl

added-behind : (prefix : List OutLine) (s : State) (lines : List Text) (line : Text) → added (behind prefix s) lines line ≡ behind prefix (added s lines line)
added-behind prefix s lines line =
    choose-behind prefix (bytes_eq line del) (defined_by (closed s) (defined_of lines)) (opened (kept lines line) s)
    (defined_by (closed (behind prefix s)) (defined_of lines)) (opened (kept lines line) (behind prefix s))
    (defined_by-behind prefix (closed s) (defined_of lines)) refl

erased-behind : (prefix : List OutLine) (names : List Text) (s : State) → erased names (behind prefix s) ≡ behind prefix (erased names s)
erased-behind prefix [] s = refl
erased-behind prefix (name ∷ names) s = erased-behind prefix names (without_global name s)

erasing-behind : (prefix : List OutLine) (names : Option (List Text)) (s : State) → erasing (behind prefix s) names ≡ behind prefix (erasing s names)
erasing-behind prefix None s = refused-behind prefix s CommandFault
erasing-behind prefix (Some []) s = refused-behind prefix s CommandFault
erasing-behind prefix (Some (name ∷ names)) s = erased-behind prefix (name ∷ names) s

obeyed-behind : (prefix : List OutLine) (c : Command) (s : State) → obeyed (behind prefix s) c ≡ behind prefix (obeyed s c)
obeyed-behind prefix StateIndicator s = lines-behind prefix s _
obeyed-behind prefix Functions s = lines-behind prefix s _
obeyed-behind prefix Variables s = lines-behind prefix s _
obeyed-behind prefix Erase s = refused-behind prefix s CommandFault
obeyed-behind prefix Clear s = refl

ordered-behind : (prefix : List OutLine) (c : Option Command) (words : List Text) (s : State) → ordered (behind prefix s) c words ≡ behind prefix (ordered s c words)
ordered-behind prefix None words s = refused-behind prefix s CommandFault
ordered-behind prefix (Some Erase) words s = erasing-behind prefix (names_in words) s
ordered-behind prefix (Some StateIndicator) [] s = obeyed-behind prefix StateIndicator s
ordered-behind prefix (Some StateIndicator) (word ∷ words) s = refused-behind prefix s CommandFault
ordered-behind prefix (Some Functions) [] s = obeyed-behind prefix Functions s
ordered-behind prefix (Some Functions) (word ∷ words) s = refused-behind prefix s CommandFault
ordered-behind prefix (Some Variables) [] s = obeyed-behind prefix Variables s
ordered-behind prefix (Some Variables) (word ∷ words) s = refused-behind prefix s CommandFault
ordered-behind prefix (Some Clear) [] s = obeyed-behind prefix Clear s
ordered-behind prefix (Some Clear) (word ∷ words) s = refused-behind prefix s CommandFault

commanded-behind : (prefix : List OutLine) (text : Text) (s : State) → commanded (behind prefix s) text ≡ behind prefix (commanded s text)
commanded-behind prefix text s = ordered-behind prefix (command_of (before_blank text)) (words_of (from_blank text)) s

typed_behind-behind : (prefix : List OutLine) (s : State) (text : Text) (mark : Option ℕ) → typed_behind (behind prefix s) text mark ≡ behind prefix (typed_behind s text mark)
typed_behind-behind prefix s text None = begun_by-behind prefix s text (tokens_of text)
typed_behind-behind prefix s text (Some mark) =
    let rest : Text = behind_mark text in
    let statement : State = begun s text in
    choose-behind prefix (mark == 41) (commanded s rest) (if mark == 0x2207 then typed_behind_del s rest else statement)
    (commanded (behind prefix s) rest) (if mark == 0x2207 then typed_behind_del (behind prefix s) rest else begun (behind prefix s) text)
    (commanded-behind prefix rest s)
    (choose-behind prefix (mark == 0x2207) (typed_behind_del s rest) statement (typed_behind_del (behind prefix s) rest) (begun (behind prefix s) text)
    (shown_or_opened-behind prefix s rest (shown_name rest)) (begun_by-behind prefix s text (tokens_of text)))

typed_in-behind : (prefix : List OutLine) (s : State) (definition : Option (List Text)) (text : Text) → typed_in (behind prefix s) definition text ≡ behind prefix (typed_in s definition text)
typed_in-behind prefix s None text = typed_behind-behind prefix s text (first_mark text)
typed_in-behind prefix s (Some lines) text = added-behind prefix s lines (trimmed text)

typed_as-behind : (prefix : List OutLine) (s : State) (text : Option Text) → typed_as (behind prefix s) text ≡ behind prefix (typed_as s text)
typed_as-behind prefix s None = refused-behind prefix s Character
typed_as-behind prefix s (Some text) = typed_in-behind prefix s s.definition text

after_event-behind : (prefix : List OutLine) (s : State) (event : Event) → after_event (behind prefix s) event ≡ behind prefix (after_event s event)
after_event-behind prefix s (Line bytes) = choose-behind prefix (is_idle s) _ _ _ _ (typed_as-behind prefix s (decoded bytes)) refl
after_event-behind prefix s (Steps count) = steps-behind prefix count s
after_event-behind prefix s Interrupt = interrupted-behind prefix (is_idle s) s

-- after events
after-behind : (prefix : List OutLine) (s : State) (events : List Event) → after (behind prefix s) events ≡ behind prefix (after s events)
after-behind prefix s [] = refl
after-behind prefix s (event ∷ events) = ap (λ (t : State). after t events) (after_event-behind prefix s event) ∙ after-behind prefix (after_event s event) events

-- a step comes to a stop whatever was written before
stops-behind : (prefix : List OutLine) (s : State) (c : Change) → (applied (behind prefix s) c).stopped ≡ (applied s c).stopped
stops-behind prefix s c = applied-stops (behind prefix s) c ∙ sym (applied-stops s c)

resumed-behind : (prefix : List OutLine) (s : State) → resumed (behind prefix s) ≡ behind prefix (resumed s)
resumed-behind prefix s = ap (steps 2) (after_event-behind prefix s (Line resume_line)) ∙ steps-behind prefix 2 (after_event s (Line resume_line))

-- a turn that the other's is but for what was written before
answered-behind : (prefix : List OutLine) (t u : Turn) → t.stopped ≡ u.stopped → t.state ≡ behind prefix u.state → after_stop t ≡ behind prefix (after_stop u)
answered-behind prefix t u stops same =
    ap (λ (b : Bool). cond b (resumed t.state) t.state) stops
    ∙ choose-behind prefix u.stopped (resumed u.state) u.state (resumed t.state) t.state (ap resumed same ∙ resumed-behind prefix u.state) same

cut_steps-behind : (prefix : List OutLine) (n : ℕ) (s : State) → cut_steps n (behind prefix s) ≡ behind prefix (cut_steps n s)
cut_steps-behind prefix zero s = refl
cut_steps-behind prefix (suc n) s =
    let c : Change = change s.world s.contexts in
    ap (cut_steps n) (answered-behind prefix (turn (behind prefix s)) (turn s) (stops-behind prefix s c) (applied-behind prefix s c))
    ∙ cut_steps-behind prefix n (after_stop (turn s))

-- a line keeps in prefix what was written before
abbrev pub KeepsOutput : (State → List ℕ → State) → Type 0
KeepsOutput line_of = (prefix : List OutLine) (s : State) (line : List ℕ) → line_of (behind prefix s) line ≡ behind prefix (line_of s line)

-- in either way
does-behind : (m : Manner) → KeepsOutput (does m)
does-behind (Plain n) prefix s line = after-behind prefix s (line_events n line)
does-behind (Answered n) prefix s line =
    ap (λ (t : State). interrupt (cut_steps n t)) (after_event-behind prefix s (Line line))
    ∙ ap interrupt (cut_steps-behind prefix n (after_event s (Line line)))
    ∙ interrupted-behind prefix (is_idle (cut_steps n (after_event s (Line line)))) (cut_steps n (after_event s (Line line)))

written-append : (xs ys : List OutLine) → written (xs ++ ys) ≡ written xs ++ written ys
written-append [] ys = refl
written-append (x ∷ xs) ys = ap (λ (t : List ℕ). bytes x.text ++ 10 ∷ t) (written-append xs ys) ∙ sym (append_assoc (bytes x.text) (10 ∷ written xs) (written ys))

-- a line that is done where nothing stands to be written, and what stood to be written in prefix of what comes of it
from-silent : (line_of : State → List ℕ → State) → KeepsOutput line_of → (s : State) (line : List ℕ) → line_of s line ≡ behind s.output (line_of (silent s) line)
from-silent line_of keeps s line =
    ap (λ (o : List OutLine). line_of (record s { output = o }) line) (sym (append-nil s.output)) ∙ keeps s.output (silent s) line

session-in_order : (line_of : State → List ℕ → State) → KeepsOutput line_of → IsInOrder (on_session line_of)
session-in_order line_of keeps = record {
  lines = λ line. record {
    state = λ s. sym (ap silent (from-silent line_of keeps s line));
    prefix = λ s. ap (λ (t : State). written t.output) (from-silent line_of keeps s line) ∙ written-append s.output (line_of (silent s) line).output;
  };
  end = record { state = λ s. refl; prefix = λ s. sym (append-nil (written s.output)) };
  still = λ s. refl;
  nothing = λ s. refl;
}

pub manner-in_order : (m : Manner) → IsInOrder (way m)
manner-in_order m = session-in_order (does m) (does-behind m)
