-- What a typed line makes of an idle state, and of the same state freed.
use Rattle.std.proofs.Common.{◌≡◌, ℕ, List, [], ◌∷◌, Bool, true, false, Option, Some, None, ap, ◌∙◌, sym, refl, subst, ◌⊎◌, inl, inr}
use Rattle.std.specs.Prelude.{if◌then◌else◌, Result, Ok, Err, ◌==◌}
use Rattle.std.specs.Str.{bytes_eq}
use Rattle.apl_charset.specs.Decoding.{decoded}
use Rattle.apl_faults.specs.declared.fault.Fault.{Fault}
use Rattle.apl_faults.specs.declared.fault.Fault.TheVariants.{Character, Command as CommandFault, Defn, Syntax}
use Rattle.apl_faults.specs.Report.{name_of, report}
use Rattle.apl_defn.specs.declared.error.DefnError.{DefnError}
use Rattle.apl_defn.specs.Blanks.{trimmed}
use Rattle.apl_defn.specs.Definitions.{Text, Header, Definition}
use Rattle.apl_defn.specs.Defining.{defined_of}
use Rattle.apl_defn.specs.Listing.{listed}
use Rattle.apl_defn.specs.Reading.{header_of}
use Rattle.apl_tokens.specs.declared.token.Token.{Token}
use Rattle.apl_tokens.specs.declared.line.TokenError.{TokenError}
use Rattle.apl_tokens.specs.Tokens.{tokens_of}
use Rattle.apl_vectors.specs.Vectors.{without_vector}
use Rattle.apl_machine_state.specs.declared.output.Blame.TheVariants as blame
use Rattle.apl_machine_state.specs.declared.output.LineKind.TheVariants.{Answer, Report}
use Rattle.apl_machine_state.specs.declared.output.OutLine.{OutLine}
use Rattle.apl_machine_state.specs.Reports.{lines_of, report_lines}
use Rattle.apl_machine_state.specs.State.{State, is_idle, is_global_variable, definition_of, with_function, with_lines}
use Rattle.apl_machine_state.specs.Beginning.{begun, begun_by, reported, started, token_fault}
use Rattle.apl_machine_state.specs.Texts.{colon_of, column_of, fault_of}
use Rattle.apl_machine_state.specs.Objects.{cleared, erased, without_global}
use Rattle.apl_session.specs.declared.commands.Command.{Command}
use Rattle.apl_session.specs.declared.commands.Command.TheVariants.{StateIndicator, Functions, Variables, Erase, Clear}
use Rattle.apl_session.specs.Commands.{before_blank, command_of, erasing, from_blank, names_in, obeyed, ordered, words_of}
use Rattle.apl_session.specs.Defining.{added, answered, behind_mark, closed, defined_by, del, kept, opened, opened_by, refused, shown, shown_name, shown_or_opened}
use Rattle.apl_session.specs.Events.{first_mark, typed, typed_as, typed_behind, typed_in}
use Rattle.apl_resume.specs.Cut.{free}
use Rattle.apl_resume.proofs.Output.{IsPlain, plain-more, plain-of}

-- A line makes t of an idle state x, and u of that state freed, at once: nothing runs then.
pub record IsDone (x t u : State) : Type 0 where
  pub freed : free t ≡ u
  pub idle : is_idle t ≡ true
  pub emptied : x.stops ≡ [] → t.stops ≡ []

-- the same on either side of a test that doesn't see the stops
either : (R : State → State → Type 0) (b : Bool) {t t' u u' : State} → R t u → R t' u' → R (if b then t else t') (if b then u else u')
either R true p q = p
either R false p q = q

-- lines are written on a state that differs from x in its open definition alone
abbrev with_output : State → List OutLine → State
with_output s output = record { world = s.world; stops = []; contexts = s.contexts; definition = s.definition; output = output }

says : (x : State) (lines : List OutLine) → IsPlain lines → is_idle x ≡ true → IsDone x (with_lines lines x) (with_lines lines (free x))
says x lines plain idle = record { freed = ap (with_output x) (plain-more x.output lines plain); idle = idle; emptied = λ e. e }

answers : (x : State) (texts : List Text) → is_idle x ≡ true → IsDone x (answered texts x) (answered texts (free x))
answers x texts idle = says x (lines_of Answer texts) (plain-of Answer texts refl) idle

refuses : (x : State) (fault : Fault) → is_idle x ≡ true → IsDone x (refused x fault) (refused (free x) fault)
refuses x fault idle = says x (lines_of (Report fault blame.Nothing) (name_of fault ∷ [])) (plain-of (Report fault blame.Nothing) (name_of fault ∷ []) refl) idle

refuses_closed : (x : State) (fault : Fault) → is_idle x ≡ true → IsDone x (refused (closed x) fault) (refused (closed (free x)) fault)
refuses_closed x fault idle = record {
  freed = ap (with_output (closed x)) (plain-more x.output (lines_of (Report fault blame.Nothing) (name_of fault ∷ [])) (plain-of (Report fault blame.Nothing) (name_of fault ∷ []) refl));
  idle = idle;
  emptied = λ e. e;
}

opens : (x : State) (lines : List Text) → is_idle x ≡ true → IsDone x (opened lines x) (opened lines (free x))
opens x lines idle = record { freed = refl; idle = idle; emptied = λ e. e }

defines : (x : State) (d : Definition) → is_idle x ≡ true → IsDone x (with_function d (closed x)) (with_function d (closed (free x)))
defines x d idle = record { freed = refl; idle = idle; emptied = λ e. ap (without_vector d.header.name) e }

defined_done : (x : State) (d : Result Definition DefnError) → is_idle x ≡ true → IsDone x (defined_by (closed x) d) (defined_by (closed (free x)) d)
defined_done x (Err e) idle = refuses_closed x Defn idle
defined_done x (Ok d) idle = either (IsDone x) (is_global_variable x d.header.name) (refuses_closed x Defn idle) (defines x d idle)

added_done : (x : State) (lines : List Text) (line : Text) → is_idle x ≡ true → IsDone x (added x lines line) (added (free x) lines line)
added_done x lines line idle = either (IsDone x) (bytes_eq line del) (defined_done x (defined_of lines) idle) (opens x (kept lines line) idle)

shown_done : (x : State) (d : Option Definition) → is_idle x ≡ true → IsDone x (shown x d) (shown (free x) d)
shown_done x None idle = refuses x Defn idle
shown_done x (Some d) idle = answers x (listed d) idle

opened_done : (x : State) (text : Text) (h : Result Header DefnError) → is_idle x ≡ true → IsDone x (opened_by x text h) (opened_by (free x) text h)
opened_done x text (Err e) idle = refuses x Defn idle
opened_done x text (Ok h) idle = either (IsDone x) (is_global_variable x h.name) (refuses x Defn idle) (opens x (text ∷ []) idle)

shown_or_opened_done : (x : State) (text : Text) (name : Option Text) → is_idle x ≡ true → IsDone x (shown_or_opened x text name) (shown_or_opened (free x) text name)
shown_or_opened_done x text None idle = opened_done x text (header_of text) idle
shown_or_opened_done x text (Some name) idle = shown_done x (definition_of x name) idle

-- commands
erased-contexts : (names : List Text) (s : State) → is_idle (erased names s) ≡ is_idle s
erased-contexts [] s = refl
erased-contexts (name ∷ names) s = erased-contexts names (without_global name s)

erased-free : (names : List Text) (s : State) → free (erased names s) ≡ erased names (free s)
erased-free [] s = refl
erased-free (name ∷ names) s = erased-free names (without_global name s)

erased-emptied : (names : List Text) (s : State) → s.stops ≡ [] → (erased names s).stops ≡ []
erased-emptied [] s e = e
erased-emptied (name ∷ names) s e = erased-emptied names (without_global name s) (ap (without_vector name) e)

erases : (x : State) (names : List Text) → is_idle x ≡ true → IsDone x (erased names x) (erased names (free x))
erases x names idle = record { freed = erased-free names x; idle = erased-contexts names x ∙ idle; emptied = erased-emptied names x }

erasing_done : (x : State) (names : Option (List Text)) → is_idle x ≡ true → IsDone x (erasing x names) (erasing (free x) names)
erasing_done x None idle = refuses x CommandFault idle
erasing_done x (Some []) idle = refuses x CommandFault idle
erasing_done x (Some (name ∷ names)) idle = erases x (name ∷ names) idle

clears : (x : State) → IsDone x (cleared x) (cleared (free x))
clears x = record { freed = refl; idle = refl; emptied = λ e. refl }

obeyed_done : (x : State) (command : Command) → is_idle x ≡ true → IsDone x (obeyed x command) (obeyed (free x) command)
obeyed_done x StateIndicator idle = answers x _ idle
obeyed_done x Functions idle = answers x _ idle
obeyed_done x Variables idle = answers x _ idle
obeyed_done x Erase idle = refuses x CommandFault idle
obeyed_done x Clear idle = clears x

ordered_done : (x : State) (command : Option Command) (words : List Text) → is_idle x ≡ true → IsDone x (ordered x command words) (ordered (free x) command words)
ordered_done x None words idle = refuses x CommandFault idle
ordered_done x (Some StateIndicator) [] idle = obeyed_done x StateIndicator idle
ordered_done x (Some StateIndicator) (word ∷ words) idle = refuses x CommandFault idle
ordered_done x (Some Functions) [] idle = obeyed_done x Functions idle
ordered_done x (Some Functions) (word ∷ words) idle = refuses x CommandFault idle
ordered_done x (Some Variables) [] idle = obeyed_done x Variables idle
ordered_done x (Some Variables) (word ∷ words) idle = refuses x CommandFault idle
ordered_done x (Some Erase) words idle = erasing_done x (names_in words) idle
ordered_done x (Some Clear) [] idle = obeyed_done x Clear idle
ordered_done x (Some Clear) (word ∷ words) idle = refuses x CommandFault idle

-- Or it is begun as a statement, where no definition is open.
pub record IsBegun (x : State) (line : List ℕ) (t u : State) : Type 0 where
  pub text : Text
  pub is_text : decoded line ≡ Some text
  pub none : x.definition ≡ None
  pub begins : t ≡ begun x text
  pub begins_freed : u ≡ begun (free x) text

abbrev pub IsDoneOrBegun : State → Text → State → State → Type 0
IsDoneOrBegun x text t u = IsDone x t u ⊎ ((t ≡ begun x text) × (u ≡ begun (free x) text))

behind_typed : (x : State) (text : Text) (mark : Option ℕ) → is_idle x ≡ true → IsDoneOrBegun x text (typed_behind x text mark) (typed_behind (free x) text mark)
behind_typed x text None idle = inr (refl, refl)
behind_typed x text (Some mark) idle =
    either (IsDoneOrBegun x text) (mark == 41) (inl (ordered_done x (command_of (before_blank (behind_mark text))) (words_of (from_blank (behind_mark text))) idle))
    (either (IsDoneOrBegun x text) (mark == 0x2207) (inl (shown_or_opened_done x (behind_mark text) (shown_name (behind_mark text)) idle)) (inr (refl, refl)))

-- what a typed line makes of a state
abbrev pub IsTyped : State → List ℕ → State → State → Type 0
IsTyped x line t u = IsDone x t u ⊎ IsBegun x line t u

outside_typed : (x : State) (line : List ℕ) (text : Text) → decoded line ≡ Some text → x.definition ≡ None → {t u : State} → IsDoneOrBegun x text t u → IsTyped x line t u
outside_typed x line text is_text none (inl done) = inl done
outside_typed x line text is_text none (inr begins) = inr (record { text = text; is_text = is_text; none = none; begins = begins.0; begins_freed = begins.1 })

in_typed : (x : State) (line : List ℕ) (definition : Option (List Text)) (text : Text) → decoded line ≡ Some text → is_idle x ≡ true → x.definition ≡ definition → IsTyped x line (typed_in x definition text) (typed_in (free x) definition text)
in_typed x line None text is_text idle none = outside_typed x line text is_text none (behind_typed x text (first_mark text) idle)
in_typed x line (Some lines) text is_text idle e = inl (added_done x lines (trimmed text) idle)

as_typed : (x : State) (line : List ℕ) (text : Option Text) → decoded line ≡ text → is_idle x ≡ true → IsTyped x line (typed_as x text) (typed_as (free x) text)
as_typed x line None is_text idle = inl (refuses x Character idle)
as_typed x line (Some text) is_text idle = in_typed x line x.definition text is_text idle refl

idle_typed : (b : Bool) (x : State) (line : List ℕ) → is_idle x ≡ true → b ≡ true → IsTyped x line (if b then typed_as x (decoded line) else x) (if b then typed_as (free x) (decoded line) else free x)
idle_typed true x line idle e = as_typed x line (decoded line) refl idle
idle_typed false x line idle e = cc

-- a line that is typed on an idle state
pub typed_line : (x : State) (line : List ℕ) → is_idle x ≡ true → IsTyped x line (typed x line) (typed (free x) line)
typed_line x line idle = idle_typed (is_idle x) x line idle idle

-- a line that leaves a state running opens no definition and touches no stop vector
abbrev pub IsSettled : State → State → Type 0
IsSettled x t = ((t.definition ≡ None) × (t.stops ≡ x.stops)) ⊎ (is_idle t ≡ true)

-- what a line makes of a state, and of that state freed
pub record IsLine (x t u : State) : Type 0 where
  pub freed : free t ≡ u
  pub settled : IsSettled x t
  pub emptied : x.stops ≡ [] → t.stops ≡ []

done_line : (x : State) {t u : State} → IsDone x t u → IsLine x t u
done_line x done = record { freed = done.freed; settled = inr done.idle; emptied = done.emptied }

token-plain : (fault : Fault) (text : Text) (at : Option ℕ) → IsPlain (reported fault text at)
token-plain fault text (Some at) = plain-of (Report fault (blame.Typed at)) (report fault None text at) refl
token-plain fault text None = refl

started_line : (x : State) (text : Text) (tokens : List Token) (colon : Option ℕ) → is_idle x ≡ true → x.definition ≡ None → IsLine x (started x text tokens colon) (started (free x) text tokens colon)
started_line x text tokens (Some at) idle none = done_line x (says x (report_lines Syntax None text at) (plain-of (Report Syntax (blame.Typed at)) (report Syntax None text at) refl) idle)
started_line x text tokens None idle none = record { freed = refl; settled = inl (none, refl); emptied = λ e. e }

begun_line : (x : State) (text : Text) (tokens : Result (List Token) TokenError) → is_idle x ≡ true → x.definition ≡ None → IsLine x (begun_by x text tokens) (begun_by (free x) text tokens)
begun_line x text (Ok tokens) idle none = started_line x text tokens (colon_of tokens) idle none
begun_line x text (Err error) idle none = done_line x (says x (token_fault text error) (token-plain (fault_of error) text (column_of error)) idle)

pub settled_line : (x : State) (line : List ℕ) {t u : State} → is_idle x ≡ true → IsTyped x line t u → IsLine x t u
settled_line x line idle (inl done) = done_line x done
settled_line x line {t} {u} idle (inr b) =
    let l : IsLine x (begun x b.text) (begun (free x) b.text) = begun_line x b.text (tokens_of b.text) idle b.none in
    record {
      freed = ap free b.begins ∙ l.freed ∙ sym b.begins_freed;
      settled = subst (IsSettled x) (sym b.begins) l.settled;
      emptied = λ e. ap (λ (s : State). s.stops) b.begins ∙ l.emptied e;
    }
