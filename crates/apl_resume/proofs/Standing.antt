-- Whatever comes, the contexts stand in order.
use Rattle.std.proofs.Common.{◌≡◌, ℕ, zero, suc, List, [], ◌∷◌, Bool, true, false, Option, Some, None, refl}
use Rattle.std.specs.Prelude.{if◌then◌else◌, Result, Ok, Err, ◌==◌}
use Rattle.std.specs.Str.{bytes_eq}
use Rattle.apl_charset.specs.Decoding.{decoded}
use Rattle.apl_defn.specs.declared.error.DefnError.{DefnError}
use Rattle.apl_defn.specs.Blanks.{trimmed}
use Rattle.apl_defn.specs.Definitions.{Text, Header, Definition}
use Rattle.apl_defn.specs.Defining.{defined_of}
use Rattle.apl_defn.specs.Reading.{header_of}
use Rattle.apl_machine_state.specs.State.{State, is_idle, is_global_variable, definition_of, step, steps}
use Rattle.apl_machine_state.specs.Objects.{erased, without_global}
use Rattle.apl_order.specs.Order.{AreInOrder, StepsKeepOrder, InterruptsKeepOrder, StatementsKeepOrder}
use Rattle.apl_session.specs.declared.commands.Command.{Command}
use Rattle.apl_session.specs.declared.commands.Command.TheVariants.{StateIndicator, Functions, Variables, Erase, Clear}
use Rattle.apl_session.specs.Commands.{before_blank, command_of, erasing, from_blank, names_in, obeyed, ordered, words_of}
use Rattle.apl_session.specs.Defining.{added, behind_mark, closed, defined_by, del, opened_by, shown, shown_name, shown_or_opened}
use Rattle.apl_session.specs.Events.{Event, Line, Steps, Interrupt, after_event, first_mark, typed_as, typed_behind, typed_in}
use Rattle.apl_resume.specs.Standing.{AlwaysInOrder}

abbrev Stands : State → Type 0
Stands s = AreInOrder s.contexts

either : (P : State → Type 0) (b : Bool) {t u : State} → P t → P u → P (if b then t else u)
either P true h k = h
either P false h k = k

-- definitions leave the contexts
defined-stands : (s : State) (d : Result Definition DefnError) → Stands s → Stands (defined_by s d)
defined-stands s (Err e) h = h
defined-stands s (Ok d) h = either Stands (is_global_variable s d.header.name) h h

added-stands : (s : State) (lines : List Text) (line : Text) → Stands s → Stands (added s lines line)
added-stands s lines line h = either Stands (bytes_eq line del) (defined-stands (closed s) (defined_of lines) h) h

shown-stands : (s : State) (d : Option Definition) → Stands s → Stands (shown s d)
shown-stands s None h = h
shown-stands s (Some d) h = h

opened-stands : (s : State) (text : Text) (header : Result Header DefnError) → Stands s → Stands (opened_by s text header)
opened-stands s text (Err e) h = h
opened-stands s text (Ok header) h = either Stands (is_global_variable s header.name) h h

shown_or_opened-stands : (s : State) (text : Text) (name : Option Text) → Stands s → Stands (shown_or_opened s text name)
shown_or_opened-stands s text None h = opened-stands s text (header_of text) h
shown_or_opened-stands s text (Some name) h = shown-stands s (definition_of s name) h

-- commands leave them, or there are none
erased-stands : (names : List Text) (s : State) → Stands s → Stands (erased names s)
erased-stands [] s h = h
erased-stands (name ∷ names) s h = erased-stands names (without_global name s) h

erasing-stands : (s : State) (names : Option (List Text)) → Stands s → Stands (erasing s names)
erasing-stands s None h = h
erasing-stands s (Some []) h = h
erasing-stands s (Some (name ∷ names)) h = erased-stands (name ∷ names) s h

obeyed-stands : (s : State) (command : Command) → Stands s → Stands (obeyed s command)
obeyed-stands s StateIndicator h = h
obeyed-stands s Functions h = h
obeyed-stands s Variables h = h
obeyed-stands s Erase h = h
obeyed-stands s Clear h = tt

ordered-stands : (s : State) (command : Option Command) (words : List Text) → Stands s → Stands (ordered s command words)
ordered-stands s None words h = h
ordered-stands s (Some StateIndicator) [] h = obeyed-stands s StateIndicator h
ordered-stands s (Some StateIndicator) (word ∷ words) h = h
ordered-stands s (Some Functions) [] h = obeyed-stands s Functions h
ordered-stands s (Some Functions) (word ∷ words) h = h
ordered-stands s (Some Variables) [] h = obeyed-stands s Variables h
ordered-stands s (Some Variables) (word ∷ words) h = h
ordered-stands s (Some Erase) words h = erasing-stands s (names_in words) h
ordered-stands s (Some Clear) [] h = obeyed-stands s Clear h
ordered-stands s (Some Clear) (word ∷ words) h = h

module _ (by_steps : StepsKeepOrder) (by_interrupts : InterruptsKeepOrder) (by_statements : StatementsKeepOrder) where
  -- a typed line
  behind-stands : (s : State) (text : Text) (mark : Option ℕ) → is_idle s ≡ true → Stands s → Stands (typed_behind s text mark)
  behind-stands s text None idle h = by_statements s text idle h
  behind-stands s text (Some mark) idle h =
      either Stands (mark == 41) (ordered-stands s (command_of (before_blank (behind_mark text))) (words_of (from_blank (behind_mark text))) h)
      (either Stands (mark == 0x2207) (shown_or_opened-stands s (behind_mark text) (shown_name (behind_mark text)) h) (by_statements s text idle h))

  in-stands : (s : State) (definition : Option (List Text)) (text : Text) → is_idle s ≡ true → Stands s → Stands (typed_in s definition text)
  in-stands s None text idle h = behind-stands s text (first_mark text) idle h
  in-stands s (Some lines) text idle h = added-stands s lines (trimmed text) h

  as-stands : (s : State) (text : Option Text) → is_idle s ≡ true → Stands s → Stands (typed_as s text)
  as-stands s None idle h = h
  as-stands s (Some text) idle h = in-stands s s.definition text idle h

  idle-stands : (b : Bool) (s : State) (line : List ℕ) → is_idle s ≡ b → Stands s → Stands (if b then typed_as s (decoded line) else s)
  idle-stands true s line idle h = as-stands s (decoded line) idle h
  idle-stands false s line idle h = h

  -- steps
  steps-stand : (n : ℕ) (s : State) → Stands s → Stands (steps n s)
  steps-stand zero s h = h
  steps-stand (suc n) s h = steps-stand n (step s) (by_steps s h)

  event-stands : (s : State) (event : Event) → Stands s → Stands (after_event s event)
  event-stands s (Line bytes) h = idle-stands (is_idle s) s bytes refl h
  event-stands s (Steps count) h = steps-stand count s h
  event-stands s Interrupt h = by_interrupts s h

  -- THE LAW, from those of steps, interrupts and statements
  pub always_in_order : AlwaysInOrder
  always_in_order s [] h = h
  always_in_order s (event ∷ events) h = always_in_order (after_event s event) events (event-stands s event h)
