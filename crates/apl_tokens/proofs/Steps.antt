-- One step over a text.
use Rattle.std.proofs.Common.{◌≡◌, ℕ, ◌+◌, ◌-◌, ◌<◌, ◌≤◌, true, false, List, [], ◌∷◌, ◌++◌, length, take, drop, Ok, Err, refl, sym, ap, subst, ◌∙◌, arith}
use Rattle.std.proofs.lemmas.List.{length-append, length-drop, drop_at, append-nil, take-append-drop, nil_from_length}
use Rattle.apl_tokens.specs.declared.token.Kind.{Kind}
use Rattle.apl_tokens.specs.declared.token.Token.{Token}
use Rattle.apl_tokens.specs.declared.place.Place.{Place}
use Rattle.apl_tokens.specs.declared.reading.Fault.{Fault}
use Rattle.apl_tokens.specs.declared.reading.Fault.TheVariants as fault
use Rattle.apl_tokens.specs.declared.reading.Halt.{Halt}
use Rattle.apl_tokens.specs.declared.reading.Halt.TheVariants as halt
use Rattle.apl_tokens.specs.declared.reading.Run.TheVariants as run
use Rattle.apl_tokens.specs.declared.line.TokenError.{TokenError}
use Rattle.apl_tokens.specs.Characters.{class_of, is_blank}
use Rattle.apl_tokens.specs.Spelling.{class_at, all_blank, next_place, Step, Row}
use Rattle.apl_tokens.specs.Reading.{run_len, next_at, Fails}
use Rattle.apl_tokens.specs.Lines.{place_after, BreaksAt, IsBreak, error_at}
use Rattle.apl_tokens.proofs.Classes.{no_class}
use Rattle.apl_tokens.proofs.Runs.{run_passes, run_stops}
use Rattle.apl_tokens.proofs.Fronts.{Front}
use Rattle.apl_tokens.proofs.Sound.{next_front}

-- the leading blanks
abbrev pub gap_of : List ℕ → List ℕ
gap_of text = take (run_len run.Blanks text) text

abbrev pub word_of : List ℕ → List ℕ
word_of text = drop (run_len run.Blanks text) text

gap_blank : (text : List ℕ) → all_blank (gap_of text) ≡ true
gap_blank text = run_passes (λ c. is_blank (class_of c)) text

word_starts : (text : List ℕ) → is_blank (class_at (word_of text)) ≡ false
word_starts text = run_stops (λ c. is_blank (class_of c)) text (rw no_class refl)

pub front_len : (place : Place) (k : Kind) (n : ℕ) (text : List ℕ) → Front place k n text → (n ≤ length text) × (0 < n)
front_len place k n text f = (omega (arith, ap length f.parts, length-append f.word f.after, f.len), f.some)

pub word_le : (text : List ℕ) → length (word_of text) ≤ length text
word_le text = omega (arith, length-drop (run_len run.Blanks text) text)

step_from : (end : ℕ) (place : Place) (text gap w : List ℕ) (k : Kind) (n : ℕ) → text ≡ gap ++ w → all_blank gap ≡ true → length w < end → (f : Front place k n w)
    → Step end place (record { kind = k; at = end - length w }) text f.after
step_from end place text gap w k n parts blank lt f = record {
  gap = gap;
  word = f.word;
  parts = parts ∙ ap (λ (t : List ℕ). gap ++ t) f.parts;
  blank = blank;
  at = omega (arith, ap length f.parts);
  spelled = f.spelled;
  ends = f.ends;
  stands = f.stands;
}

front_rest : (place : Place) (k : Kind) (n : ℕ) (w : List ℕ) (f : Front place k n w) → f.after ≡ drop n w
front_rest place k n w f = sym (ap (λ (t : List ℕ). drop n t) f.parts ∙ drop_at f.word f.after n f.len)

pub step_is : (end : ℕ) (place : Place) (text : List ℕ) (k : Kind) (n : ℕ) → length text < end → next_at place (word_of text) ≡ Ok (k, n)
    → Step end place (record { kind = k; at = end - length (word_of text) }) text (drop n (word_of text))
step_is end place text k n lt e =
    let f = next_front place (word_of text) k n e in
    let short = word_le text in
    let step = step_from end place text (gap_of text) (word_of text) k n (sym (take-append-drop (run_len run.Blanks text) text)) (gap_blank text) (omega arith) f in
    subst (λ (x : List ℕ). Step end place (record { kind = k; at = end - length (word_of text) }) text x) (front_rest place k n (word_of text) f) step

break_is : (end : ℕ) (place : Place) (text : List ℕ) (fault : Fault) (after : ℕ) → length text < end → 0 < length (word_of text) → next_at place (word_of text) ≡ Err (fault, after)
    → BreaksAt end place text fault (end - length (word_of text) + after)
break_is end place text fault after lt some e = record {
  gap = gap_of text;
  rest = word_of text;
  parts = sym (take-append-drop (run_len run.Blanks text) text);
  blank = gap_blank text;
  some = some;
  starts = word_starts text;
  after = after;
  breaks = e;
  column_is = omega (arith, word_le text);
}

pub break_of : (end : ℕ) (place : Place) (text : List ℕ) (h : Halt) → length text < end → 0 < length (word_of text) → Fails h (next_at place (word_of text)) → IsBreak end place text (error_at h (end - length (word_of text)))
break_of end place text halt.Memory lt some e = tt
break_of end place text (halt.Broken fault.Quote after) lt some e = break_is end place text fault.Quote after lt some e
break_of end place text (halt.Broken fault.Stray after) lt some e = break_is end place text fault.Stray after lt some e
break_of end place text (halt.Broken fault.Limit after) lt some e = break_is end place text fault.Limit after lt some e

-- a text without a word is blank
pub all_gap : (text : List ℕ) → length (word_of text) ≡ 0 → all_blank text ≡ true
all_gap text e =
    let none : word_of text ≡ [] = nil_from_length _ e in
    let whole : text ≡ gap_of text = sym (take-append-drop (run_len run.Blanks text) text) ∙ rw none (append-nil (gap_of text)) in
    rw whole (gap_blank text)

-- one token more
pub Row-push : (end : ℕ) (place : Place) (ts : List Token) (t : Token) (text rest after : List ℕ) → Row end place ts text rest → Step end (place_after place ts) t rest after → Row end place (ts ++ t ∷ []) text after
Row-push end place [] t text rest after row step = (after, subst (λ (x : List ℕ). Step end place t x after) (sym row) step, refl)
Row-push end place (u ∷ ts) t text rest after row step = (row.0, row.1, Row-push end (next_place place u.kind) ts t row.0 rest after row.2 step)

pub place_after-push : (place : Place) (ts : List Token) (t : Token) → place_after place (ts ++ t ∷ []) ≡ next_place (place_after place ts) t.kind
place_after-push place [] t = refl
place_after-push place (u ∷ ts) t = place_after-push (next_place place u.kind) ts t

-- the same, of what a function cut off
pub step_at : (end : ℕ) (place : Place) (text w after : List ℕ) (k : Kind) (n len : ℕ) → length text < end → len ≡ run_len run.Blanks text → w ≡ drop len text → next_at place w ≡ Ok (k, n) → after ≡ drop n w
    → Step end place (record { kind = k; at = end - length w }) text after
step_at end place text w after k n len lt is cut e rest =
    let same : w ≡ word_of text = cut ∙ ap (λ (m : ℕ). drop m text) is in
    let step = step_is end place text k n lt (ap (λ (t : List ℕ). next_at place t) (sym same) ∙ e) in
    rw (rest, same) step

pub break_at : (end : ℕ) (place : Place) (text w : List ℕ) (h : Halt) (e : TokenError) (len : ℕ) → length text < end → len ≡ run_len run.Blanks text → w ≡ drop len text → (length w ≡ 0 → ⊥) → Fails h (next_at place w) → e ≡ error_at h (end - length w) → IsBreak end place text e
break_at end place text w h e len lt is cut some fails is_error =
    let same : w ≡ word_of text = cut ∙ ap (λ (m : ℕ). drop m text) is in
    let fails' = subst (λ (t : List ℕ). Fails h (next_at place t)) same fails in
    let some' : 0 < length (word_of text) = omega (arith, ap length same, some) in
    rw (is_error, same) (break_of end place text h lt some' fails')

pub blank_at : (text w : List ℕ) (len : ℕ) → len ≡ run_len run.Blanks text → w ≡ drop len text → length w ≡ 0 → all_blank text ≡ true
blank_at text w len is cut none =
    let same : w ≡ word_of text = cut ∙ ap (λ (m : ℕ). drop m text) is in
    all_gap text (ap length (sym same) ∙ none)
