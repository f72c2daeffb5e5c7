-- Whatever each call of a machine keeps is kept whatever is typed, stepped and interrupted.
use Rattle.std.proofs.Common.{◌≡◌, ℕ, zero, suc, ◌==◌, Bool, true, false, List, [], ◌∷◌, Option, Some, None, Result, Ok, Err, if◌then◌else◌, refl, ap, subst}
use Rattle.std.specs.Str.{bytes_eq}
use Rattle.apl_charset.specs.Decoding.{decoded}
use Rattle.apl_faults.specs.declared.fault.Fault.{Fault}
use Rattle.apl_faults.specs.declared.fault.Fault.TheVariants.{Character, Defn, Command as CommandFault}
use Rattle.apl_faults.specs.Report.{name_of}
use Rattle.apl_defn.specs.declared.error.DefnError.{DefnError}
use Rattle.apl_defn.specs.Blanks.{trimmed}
use Rattle.apl_defn.specs.Definitions.{Text, Header, Definition}
use Rattle.apl_defn.specs.Defining.{IsDefined, defined_of}
use Rattle.apl_defn.specs.Listing.{listed}
use Rattle.apl_defn.specs.Reading.{header_of}
use Rattle.apl_defn.proofs.Limits.{defined_made}
use Rattle.apl_machine_state.specs.declared.output.Blame.TheVariants as blame
use Rattle.apl_machine_state.specs.declared.output.LineKind.TheVariants.{Answer, Report}
use Rattle.apl_machine_state.specs.declared.output.OutLine.{OutLine}
use Rattle.apl_machine_state.specs.Beginning.{begun}
use Rattle.apl_machine_state.specs.Reports.{lines_of}
use Rattle.apl_machine_state.specs.Objects.{cleared, erased}
use Rattle.apl_machine_state.specs.State.{State, definition_of, interrupt, is_global_variable, is_idle, step, steps, with_function, with_lines}
use Rattle.apl_session.specs.declared.commands.Command.{Command}
use Rattle.apl_session.specs.declared.commands.Command.TheVariants.{StateIndicator, Functions, Variables, Erase, Clear}
use Rattle.apl_session.specs.Commands.{before_blank, command_of, commanded, erasing, from_blank, names_in, obeyed, ordered, words_of}
use Rattle.apl_session.specs.Defining.{added, behind_mark, closed, defined_by, del, kept, opened, opened_by, refused, shown, shown_name, shown_or_opened, typed_behind_del}
use Rattle.apl_session.specs.Events.{Event, Line, Steps, Interrupt, after, after_event, first_mark, typed_as, typed_behind, typed_in}

-- What holds of states goes on to hold, whatever is done to a machine, and whatever definitions are opened and closed on it.
pub record IsLasting (P : State → Type 0) : Type 0 where
  pub told : (s : State) (lines : List OutLine) → P s → P (with_lines lines s)
  pub defining : (s : State) (lines : Option (List Text)) → P s → P (record s { definition = lines })
  pub with_definition : (s : State) (d : Definition) → IsDefined d → P s → P (with_function d s)
  pub without_objects : (s : State) (names : List Text) → P s → P (erased names s)
  pub emptied : (s : State) → P s → P (cleared s)
  pub begins : (s : State) (text : Text) → is_idle s ≡ true → P s → P (begun s text)
  pub stepped : (s : State) → P s → P (step s)
  pub interrupted : (s : State) → P s → P (interrupt s)

is-defined : (lines : List Text) (d : Definition) → defined_of lines ≡ Ok d → IsDefined d
unfolding defined_of
is-defined [] d e = absurd cc
is-defined (first ∷ lines) d e =
    let made = (defined_made first lines d e).2 in
    (first, subst (λ (ls : List Text). defined_of (first ∷ ls) ≡ Ok d) (ap (λ (x : Definition). x.lines) made.is) e)

module _ (P : State → Type 0) (k : IsLasting P) where
  pub either : (b : Bool) (s t : State) → P s → P t → P (if b then s else t)
  either true s t h g = h
  either false s t h g = g

  refuses : (s : State) (fault : Fault) → P s → P (refused s fault)
  refuses s fault h = k.told s (lines_of (Report fault blame.Nothing) (name_of fault ∷ [])) h

  -- ---- definitions

  defines : (s : State) (lines : List Text) (r : Result Definition DefnError) → defined_of lines ≡ r → P s → P (defined_by s r)
  defines s lines (Err error) e h = refuses s Defn h
  defines s lines (Ok d) e h = either (is_global_variable s d.header.name) (refused s Defn) (with_function d s) (refuses s Defn h) (k.with_definition s d (is-defined lines d e) h)

  adds : (s : State) (lines : List Text) (line : Text) → P s → P (added s lines line)
  adds s lines line h =
      either (bytes_eq line del) (defined_by (closed s) (defined_of lines)) (opened (kept lines line) s)
      (defines (closed s) lines (defined_of lines) refl (k.defining s None h)) (k.defining s (Some (kept lines line)) h)

  opens : (s : State) (text : Text) (r : Result Header DefnError) → P s → P (opened_by s text r)
  opens s text (Err error) h = refuses s Defn h
  opens s text (Ok header) h = either (is_global_variable s header.name) (refused s Defn) (opened (text ∷ []) s) (refuses s Defn h) (k.defining s (Some (text ∷ [])) h)

  shows : (s : State) (o : Option Definition) → P s → P (shown s o)
  shows s None h = refuses s Defn h
  shows s (Some d) h = k.told s (lines_of Answer (listed d)) h

  shows_or_opens : (s : State) (text : Text) (o : Option Text) → P s → P (shown_or_opened s text o)
  shows_or_opens s text None h = opens s text (header_of text) h
  shows_or_opens s text (Some name) h = shows s (definition_of s name) h

  -- ---- commands

  erases_named : (s : State) (o : Option (List Text)) → P s → P (erasing s o)
  erases_named s None h = refuses s CommandFault h
  erases_named s (Some []) h = refuses s CommandFault h
  erases_named s (Some (n ∷ ns)) h = k.without_objects s (n ∷ ns) h

  obeys : (s : State) (command : Command) → P s → P (obeyed s command)
  obeys s StateIndicator h = k.told s _ h
  obeys s Functions h = k.told s _ h
  obeys s Variables h = k.told s _ h
  obeys s Erase h = refuses s CommandFault h
  obeys s Clear h = k.emptied s h

  orders : (s : State) (o : Option Command) (words : List Text) → P s → P (ordered s o words)
  orders s None words h = refuses s CommandFault h
  orders s (Some StateIndicator) [] h = obeys s StateIndicator h
  orders s (Some Functions) [] h = obeys s Functions h
  orders s (Some Variables) [] h = obeys s Variables h
  orders s (Some Clear) [] h = obeys s Clear h
  orders s (Some Erase) words h = erases_named s (names_in words) h
  orders s (Some StateIndicator) (w ∷ ws) h = refuses s CommandFault h
  orders s (Some Functions) (w ∷ ws) h = refuses s CommandFault h
  orders s (Some Variables) (w ∷ ws) h = refuses s CommandFault h
  orders s (Some Clear) (w ∷ ws) h = refuses s CommandFault h

  -- ---- lines

  typed-behind : (s : State) (text : Text) (mark : Option ℕ) → is_idle s ≡ true → P s → P (typed_behind s text mark)
  typed-behind s text None idle h = k.begins s text idle h
  typed-behind s text (Some mark) idle h =
      let statement = k.begins s text idle h in
      let command = orders s (command_of (before_blank (behind_mark text))) (words_of (from_blank (behind_mark text))) h in
      let definition = shows_or_opens s (behind_mark text) (shown_name (behind_mark text)) h in
      either (mark == 41) (commanded s (behind_mark text)) (if mark == 0x2207 then typed_behind_del s (behind_mark text) else begun s text) command
      (either (mark == 0x2207) (typed_behind_del s (behind_mark text)) (begun s text) definition statement)

  typed-in : (s : State) (o : Option (List Text)) (text : Text) → is_idle s ≡ true → P s → P (typed_in s o text)
  typed-in s None text idle h = typed-behind s text (first_mark text) idle h
  typed-in s (Some lines) text idle h = adds s lines (trimmed text) h

  typed-as : (s : State) (o : Option Text) → is_idle s ≡ true → P s → P (typed_as s o)
  typed-as s None idle h = refuses s Character h
  typed-as s (Some text) idle h = typed-in s s.definition text idle h

  typed-where : (s : State) (o : Option Text) (b : Bool) → is_idle s ≡ b → P s → P (if b then typed_as s o else s)
  typed-where s o true idle h = typed-as s o idle h
  typed-where s o false idle h = h

  -- ---- events

  steps-keep : (n : ℕ) (s : State) → P s → P (steps n s)
  steps-keep zero s h = h
  steps-keep (suc n) s h = steps-keep n (step s) (k.stepped s h)

  event-keeps : (s : State) (event : Event) → P s → P (after_event s event)
  event-keeps s (Line bytes) h = typed-where s (decoded bytes) (is_idle s) refl h
  event-keeps s (Steps count) h = steps-keep count s h
  event-keeps s Interrupt h = k.interrupted s h

  pub events-keep : (s : State) (events : List Event) → P s → P (after s events)
  events-keep s [] h = h
  events-keep s (event ∷ events) h = events-keep (after_event s event) events (event-keeps s event h)
