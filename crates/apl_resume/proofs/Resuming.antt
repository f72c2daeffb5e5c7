-- The line →⎕LC, typed where a call stands suspended before one of its lines: two steps begin that line.
use Rattle.std.proofs.Common.{◌≡◌, ℕ, ◌+◌, List, [], ◌∷◌, Bool, true, false, Option, Some, None, ap, ◌∙◌, refl}
use Rattle.std.specs.Prelude.{if◌then◌else◌, Ok, pos, map, not}
use Rattle.std.specs.Str.{is_utf8, chars}
use Rattle.apl_charset.specs.Set.{is_member}
use Rattle.apl_charset.specs.Decoding.{decoded}
use Rattle.apl_symbols.specs.Glyphs.{primitive_of, mark_of, symbol_of}
use Rattle.apl_symbols.specs.SystemNames.{system_named}
use Rattle.apl_symbols.specs.declared.symbol.Symbol.TheVariants.{RightArrow}
use Rattle.apl_symbols.specs.declared.system.SystemName.TheVariants.{LineCounter}
use Rattle.apl_tokens.specs.declared.token.Kind.TheVariants as kinds
use Rattle.apl_tokens.specs.declared.token.Token.{Token}
use Rattle.apl_tokens.specs.Characters.{class_of}
use Rattle.apl_tokens.specs.Reading.{next_at, next_of, quad_at, symbol_at}
use Rattle.apl_tokens.specs.Brackets.{unmatched}
use Rattle.apl_tokens.specs.Tokens.{pieces_of, tokens_of}
use Rattle.apl_translate.specs.declared.form.Word.TheVariants as words
use Rattle.apl_translate.specs.declared.form.Form.TheVariants as forms
use Rattle.apl_translate.specs.declared.form.Placed.{Placed}
use Rattle.apl_code.specs.declared.row.Variable.TheVariants as variables
use Rattle.apl_translate.specs.Binding.{bound_of, names_of}
use Rattle.apl_translate.specs.Lines.{Line}
use Rattle.apl_defn.specs.Definitions.{Text, Definition, is_line}
use Rattle.apl_names.specs.Maps.{Map}
use Rattle.apl_vectors.specs.Vectors.{Vectors}
use Rattle.apl_machine_state.specs.declared.output.OutLine.{OutLine}
use Rattle.apl_arrays.specs.Cells.{Numbers}
use Rattle.apl_arrays.specs.Simple.{vector}
use Rattle.apl_code.specs.declared.row.Row.TheVariants.{Call as CallRow}
use Rattle.apl_machine_state.specs.declared.operand.Operand.TheVariants.{Value}
use Rattle.apl_machine_state.specs.Items.{Given, fresh, reduced}
use Rattle.apl_machine_state.specs.Environment.{World, Context, Statement, Call, class_of as class_in, line_numbers}
use Rattle.apl_machine_state.specs.Calls.{begun_line}
use Rattle.apl_machine_state.specs.Changes.{Change}
use Rattle.apl_machine_state.specs.State.{State, Turn, applied, turn, step, steps, is_idle}
use Rattle.apl_machine_state.specs.Beginning.{begun_by}
use Rattle.apl_session.specs.Events.{typed, typed_as}
use Rattle.apl_resume.specs.Cut.{count, moves, resume_line, resumed}
use Rattle.apl_resume.proofs.Output.{append-nil}

-- the text of the line
abbrev pub resume_text : Text
resume_text = 0x2192 ∷ 0x2395 ∷ 0x4C ∷ 0x43 ∷ []

decoded-resume : decoded resume_line ≡ Some resume_text
unfolding decoded is_member is_utf8 chars lib.Utf8.encode
decoded-resume = refl

-- its tokens
abbrev pub resume_tokens : List Token
resume_tokens = record { kind = kinds.Symbol RightArrow; at = 1 } ∷ record { kind = kinds.System LineCounter; at = 2 } ∷ []

tokens-resume : tokens_of resume_text ≡ Ok resume_tokens
unfolding tokens_of pieces_of unmatched next_at next_of symbol_at quad_at class_of symbol_of primitive_of mark_of system_named
tokens-resume = refl

-- its items
abbrev pub resume_items : List Placed
resume_items = record { form = forms.Word words.RightArrow; at = 1 } ∷ record { form = forms.Word (words.Niladic (variables.System LineCounter)); at = 2 } ∷ []

abbrev pub resume_bound : Line
resume_bound = record { items = resume_items; constants = [] }

bound-resume : bound_of resume_tokens [] ≡ resume_bound
unfolding bound_of
bound-resume = refl

names-resume : names_of resume_tokens ≡ []
unfolding names_of
names-resume = refl

goes_to_line : (b : Bool) → b ≡ true → (s : State) (there back : Change) → applied s (if b then there else back) ≡ applied s there
goes_to_line true h s there back = refl
goes_to_line false h s there back = cc

-- the newest call begins its line
abbrev pub line_began : World → List Context → List Context
line_began w [] = []
line_began w (Call d n locals rest ∷ below) = begun_line w d n locals below
line_began w (context ∷ below) = context ∷ below

abbrev pub gone_on : State → State
gone_on s = record s { contexts = line_began s.world s.contexts }

-- In two steps →⎕LC begins the line before which the newest call stands, and neither step comes to a stop.
pub record IsResumed (s : State) : Type 0 where
  pub begins : resumed s ≡ gone_on s
  pub first : (turn (typed s resume_line)).stopped ≡ false
  pub second : (turn (step (typed s resume_line))).stopped ≡ false
  pub taken : moves 2 (typed s resume_line) ≡ 2

-- the newest context is a call that stands suspended before its line
abbrev pub suspended : World → Vectors → Definition → ℕ → Map → List Context → Option (List Text) → List OutLine → State
suspended w stops d n locals below definition output = record { world = w; stops = stops; contexts = Call d n locals None ∷ below; definition = definition; output = output }

-- the line's statement is begun over a call
abbrev asking : World → Vectors → Definition → ℕ → Map → List Context → List OutLine → State
asking w stops d n locals below output = record { world = w; stops = stops; contexts = Statement resume_text (fresh resume_bound) ∷ Call d n locals None ∷ below; definition = None; output = output }

-- its ⎕LC has the line numbers of the calls
abbrev asked : World → Vectors → Definition → ℕ → Map → List Context → List OutLine → State
asked w stops d n locals below output = record {
  world = w;
  stops = stops;
  contexts = Statement resume_text (reduced 1 (CallRow (variables.System LineCounter)) (Given (Value (vector (Numbers (pos n ∷ line_numbers below))))) (fresh resume_bound)) ∷ Call d n locals None ∷ below;
  definition = None;
  output = output;
}

-- the call has begun its line
abbrev begun_state : World → Vectors → Definition → ℕ → Map → List Context → List OutLine → State
begun_state w stops d n locals below output = record { world = w; stops = stops; contexts = begun_line w d n locals below; definition = None; output = output }

module _ (w : World) (stops : Vectors) (d : Definition) (n : ℕ) (locals : Map) (below : List Context) (output : List OutLine) where
  typed-resume : typed (suspended w stops d n locals below None output) resume_line ≡ asking w stops d n locals below output
  typed-resume =
      let s : State = suspended w stops d n locals below None output in
      ap (typed_as s) decoded-resume
      ∙ ap (begun_by s resume_text) tokens-resume
      ∙ ap (λ (names : List Text). record s { contexts = Statement resume_text (fresh (bound_of resume_tokens (map (class_in s.world s.contexts) names))) ∷ s.contexts }) names-resume
      ∙ ap (λ (line : Line). record s { contexts = Statement resume_text (fresh line) ∷ s.contexts }) bound-resume

  -- the first step takes the line numbers of the calls
  turn-asking : turn (asking w stops d n locals below output) ≡ record { state = asked w stops d n locals below output; stopped = false; ended = false }
  turn-asking = ap (λ (o : List OutLine). record { state = asked w stops d n locals below o; stopped = false; ended = false }) (append-nil output)

  -- the second branches
  turn-asked : is_line d n ≡ true → turn (asked w stops d n locals below output) ≡ record { state = begun_state w stops d n locals below output; stopped = false; ended = true }
  turn-asked h = goes_to_line (is_line d n) h _ _ _ ∙ ap (λ (o : List OutLine). record { state = begun_state w stops d n locals below o; stopped = false; ended = true }) (append-nil output)

  pub resumed-suspended : is_line d n ≡ true → IsResumed (suspended w stops d n locals below None output)
  resumed-suspended h = record {
    begins = ap (steps 2) typed-resume ∙ ap (λ (t : Turn). step t.state) turn-asking ∙ ap (λ (t : Turn). t.state) (turn-asked h);
    first = ap (λ (s : State). (turn s).stopped) typed-resume ∙ ap (λ (t : Turn). t.stopped) turn-asking;
    second = ap (λ (s : State). (turn (step s)).stopped) typed-resume ∙ ap (λ (t : Turn). (turn t.state).stopped) turn-asking ∙ ap (λ (t : Turn). t.stopped) (turn-asked h);
    taken = ap (moves 2) typed-resume ∙ ap (λ (t : Turn). 1 + (count (not (is_idle t.state)) + 0)) turn-asking;
  }

-- the same where no definition is open
pub resumed-by : (definition : Option (List Text)) → definition ≡ None → (w : World) (stops : Vectors) (d : Definition) (n : ℕ) (locals : Map) (below : List Context) (output : List OutLine) →
    is_line d n ≡ true → IsResumed (suspended w stops d n locals below definition output)
resumed-by None e w stops d n locals below output h = resumed-suspended w stops d n locals below output h
resumed-by (Some lines) e w stops d n locals below output h = cc
