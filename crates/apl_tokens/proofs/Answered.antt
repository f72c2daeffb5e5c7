-- The relation and the function say the same of a text.
use Rattle.std.proofs.Common.{◌≡◌, ◌≢◌, ℕ, zero, suc, ◌+◌, ◌-◌, ◌<◌, ◌≤◌, Bool, true, false, cond, List, [], ◌∷◌, length, drop, Option, Some, None, Ok, Err, refl, ap, subst, arith, ltb}
use Rattle.std.specs.Prelude.{Result, IfOk, IfErr}
use Rattle.std.specs.declared.vec.Vec.{Vec}
use Rattle.std.specs.declared.alloc.Global.{Global}
use Rattle.std.proofs.lemmas.Bool.{ltb-true, ltb-false}
use Rattle.std.proofs.lemmas.List.{length-drop}
use Rattle.apl_tokens.specs.declared.token.Token.{Token}
use Rattle.apl_tokens.specs.declared.place.Place.{Place}
use Rattle.apl_tokens.specs.declared.place.Place.TheVariants.{Start}
use Rattle.apl_tokens.specs.declared.reading.Fault.{Fault}
use Rattle.apl_tokens.specs.declared.reading.Fault.TheVariants as fault
use Rattle.apl_tokens.specs.declared.reading.Halt.TheVariants as halt
use Rattle.apl_tokens.specs.declared.line.TokenError.{TokenError}
use Rattle.apl_tokens.specs.declared.line.TokenError.TheVariants.{Quote, Unbalanced, Stray, Limit, TooLong, Memory}
use Rattle.apl_tokens.specs.Spelling.{all_blank, next_place, Step, Row}
use Rattle.apl_tokens.specs.Reading.{Reading, next_at}
use Rattle.apl_tokens.specs.Lines.{place_after, IsBreak, error_at, ArePieces, Breaks, Spells, IsFault}
use Rattle.apl_tokens.specs.Brackets.{unmatched}
use Rattle.apl_tokens.specs.Tokens.{Answer, with_token, from_reading, from_word, pieces_of, if_balanced, balanced, tokens_of, Reads}
use Rattle.apl_tokens.proofs.Sound.{next_front}
use Rattle.apl_tokens.proofs.Steps.{word_of, word_le, front_len, step_is, break_of, all_gap}
use Rattle.apl_tokens.proofs.OneAnswer.{one_list, list_or_fault, one_fault}

-- the tokens spell the text from a place on, each number by itself
record Rowed (end : ℕ) (place : Place) (text : List ℕ) (ts : List Token) : Type 0 where
  rest : List ℕ
  row : Row end place ts text rest
  blank : all_blank rest ≡ true

-- tokens spell the text from a place on, up to where it breaks
record Broken (end : ℕ) (place : Place) (text : List ℕ) (e : TokenError) : Type 0 where
  pieces : List Token
  rest : List ℕ
  row : Row end place pieces text rest
  breaks : IsBreak end (place_after place pieces) rest e
  real : e ≢ Memory

abbrev Told : ℕ → Place → List ℕ → Answer → Type 0
Told end place text (Ok ts) = Rowed end place text ts
Told end place text (Err e) = Broken end place text e

abbrev AllTold : ℕ → ℕ → (Place → List ℕ → Answer) → Type 0
AllTold end n later = (place : Place) (rest : List ℕ) → length rest < n → Told end place rest (later place rest)

real_fault : (f : Fault) (after column : ℕ) → error_at (halt.Broken f after) column ≢ Memory
real_fault fault.Quote after column = λ e. cc
real_fault fault.Stray after column = λ e. cc
real_fault fault.Limit after column = λ e. cc

-- one token more at the start
told_token : (end : ℕ) (place : Place) (t : Token) (text after : List ℕ) (later : Answer) → Step end place t text after → Told end (next_place place t.kind) after later → Told end place text (with_token t later)
told_token end place t text after (Ok ts) step told = record { rest = told.rest; row = (after, step, told.row); blank = told.blank }
told_token end place t text after (Err e) step told = record { pieces = t ∷ told.pieces; rest = told.rest; row = (after, step, told.row); breaks = told.breaks; real = told.real }

told_reading : (end : ℕ) (place : Place) (text : List ℕ) (later : Place → List ℕ → Answer) (read : Reading) → length text < end → 0 < length (word_of text) → next_at place (word_of text) ≡ read → AllTold end (length text) later
    → Told end place text (from_reading (end - length (word_of text)) place (word_of text) read later)
told_reading end place text later (Ok piece) lt some e all =
    let prefix = front_len place piece.0 piece.1 (word_of text) (next_front place (word_of text) piece.0 piece.1 e) in
    let short : length (drop piece.1 (word_of text)) < length text = omega (arith, prefix, word_le text, length-drop piece.1 (word_of text)) in
    told_token end place (record { kind = piece.0; at = end - length (word_of text) }) text (drop piece.1 (word_of text)) (later (next_place place piece.0) (drop piece.1 (word_of text)))
    (step_is end place text piece.0 piece.1 lt e) (all (next_place place piece.0) (drop piece.1 (word_of text)) short)
told_reading end place text later (Err f) lt some e all = record {
  pieces = [];
  rest = text;
  row = refl;
  breaks = break_of end place text (halt.Broken f.0 f.1) lt some e;
  real = real_fault f.0 f.1 (end - length (word_of text));
}

told_word : (end : ℕ) (place : Place) (text word : List ℕ) (later : Place → List ℕ → Answer) → length text < end → word_of text ≡ word → AllTold end (length text) later → Told end place text (from_word end place word later)
told_word end place text [] later lt is all = record { rest = text; row = refl; blank = all_gap text (ap length is) }
told_word end place text (c ∷ word) later lt is all =
    let some : 0 < length (word_of text) = omega (arith, ap length is) in
    let told = told_reading end place text later (next_at place (word_of text)) lt some refl all in
    subst (λ (w : List ℕ). Told end place text (from_reading (end - length w) place w (next_at place w) later)) is told

told : (n end : ℕ) (place : Place) (text : List ℕ) → length text < n → length text < end → Told end place text (pieces_of n end place text)
unfolding pieces_of
told zero end place text room lt = absurd (omega arith)
told (suc n) end place text room lt = told_word end place text (word_of text) (λ p rest. pieces_of n end p rest) lt refl (λ p rest short. told n end p rest (omega arith) (omega arith))

-- what an answer says of the text
abbrev pub Holds : List ℕ → Answer → Type 0
Holds text (Ok ts) = Spells ts text
Holds text (Err e) = IsFault text e × (e ≢ Memory)

break_fault : (text : List ℕ) (e : TokenError) → length text ≤ 500 → Breaks text e → IsFault text e
break_fault text Memory short b = tt
break_fault text (Quote column) short b = (short, b)
break_fault text (Stray column) short b = (short, b)
break_fault text (Limit column) short b = (short, b)
break_fault text (Unbalanced column) short b = absurd b.breaks
break_fault text (TooLong column) short b = absurd b.breaks

holds_balanced : (text : List ℕ) (ps : List Token) (unpaired : Option ℕ) → length text ≤ 500 → ArePieces text ps → unmatched [] ps ≡ unpaired → Holds text (if_balanced ps unpaired)
holds_balanced text ps None short are is = record { short = short; pieces = ps; spelled = are; balanced = is; tokens_are = refl }
holds_balanced text ps (Some column) short are is = (record { short = short; pieces = ps; spelled = are; unbalanced = is }, λ e. cc)

holds_pieces : (text : List ℕ) (read : Answer) → length text ≤ 500 → Told (length text + 1) Start text read → Holds text (balanced read)
holds_pieces text (Ok ps) short t = holds_balanced text ps (unmatched [] ps) short (record { rest = t.rest; row = t.row; blank = t.blank }) refl
holds_pieces text (Err e) short t = (break_fault text e short (record { pieces = t.pieces; rest = t.rest; row = t.row; breaks = t.breaks }), t.real)

holds_length : (text : List ℕ) (long : Bool) → ltb 500 (length text) ≡ long → Holds text (cond long (Err (TooLong 501)) (balanced (pieces_of (length text + 1) (length text + 1) Start text)))
holds_length text true is = ((ltb-true 500 (length text) is, refl), λ e. cc)
holds_length text false is = holds_pieces text (pieces_of (length text + 1) (length text + 1) Start text) (ltb-false 500 (length text) is) (told (length text + 1) (length text + 1) Start text (omega arith) (omega arith))

-- every text has an answer, and it holds
pub answer_holds : (text : List ℕ) → Holds text (tokens_of text)
unfolding tokens_of
answer_holds text = holds_length text (ltb 500 (length text)) refl

pub answer_spells : (text : List ℕ) (ts : List Token) → tokens_of text ≡ Ok ts → Spells ts text
answer_spells text ts is = subst (λ (a : Answer). Holds text a) is (answer_holds text)

pub answer_fault : (text : List ℕ) (e : TokenError) → tokens_of text ≡ Err e → IsFault text e × (e ≢ Memory)
answer_fault text e is = subst (λ (a : Answer). Holds text a) is (answer_holds text)

spelled_case : (text : List ℕ) (ts : List Token) (a : Answer) → Spells ts text → Holds text a → a ≡ Ok ts
spelled_case text ts (Ok us) s h = ap (λ (xs : List Token). Ok xs) (one_list text us ts h s)
spelled_case text ts (Err e) s h = absurd (h.1 (list_or_fault text ts e s h.0))

fault_case : (text : List ℕ) (e : TokenError) (a : Answer) → IsFault text e → e ≢ Memory → Holds text a → a ≡ Err e
fault_case text e (Ok ts) f ne h = absurd (ne (list_or_fault text ts e h f))
fault_case text e (Err d) f ne h = ap (λ (x : TokenError). Err x) (one_fault text d e h.0 f h.1 ne)

pub spelled_answer : (text : List ℕ) (ts : List Token) → Spells ts text → tokens_of text ≡ Ok ts
spelled_answer text ts s = spelled_case text ts (tokens_of text) s (answer_holds text)

pub fault_answer : (text : List ℕ) (e : TokenError) → IsFault text e → e ≢ Memory → tokens_of text ≡ Err e
fault_answer text e f ne = fault_case text e (tokens_of text) f ne (answer_holds text)

-- what a function returned, as it read the text
fault_reads : (text : List ℕ) (e : TokenError) → IsFault text e → Reads (Err e) (tokens_of text)
fault_reads text Memory f = tt
fault_reads text (Quote column) f = fault_answer text (Quote column) f (λ e. cc)
fault_reads text (Stray column) f = fault_answer text (Stray column) f (λ e. cc)
fault_reads text (Limit column) f = fault_answer text (Limit column) f (λ e. cc)
fault_reads text (Unbalanced column) f = fault_answer text (Unbalanced column) f (λ e. cc)
fault_reads text (TooLong column) f = fault_answer text (TooLong column) f (λ e. cc)

pub reads_answer : (text : List ℕ) (result : Result (Vec Token Global) TokenError) → IfOk result (λ v. Spells v.items text) → IfErr result (λ e. IsFault text e) → Reads result (tokens_of text)
reads_answer text (Ok v) spells fault = spelled_answer text v.items spells
reads_answer text (Err e) spells fault = fault_reads text e fault
