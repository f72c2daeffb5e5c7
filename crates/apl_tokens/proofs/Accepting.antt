-- Whether what is still to be read has tokens and closes its brackets.
use Rattle.std.proofs.Common.{◌≡◌, ℕ, zero, suc, ◌+◌, ◌-◌, ◌<◌, ◌≤◌, ◌==◌, Bool, true, false, cond, List, [], ◌∷◌, map, length, drop, Option, Some, None, Ok, Err, refl, sym, ap, ◌∙◌, arith}
use Rattle.std.specs.Prelude.{is_ok, is_none, nat_lt}
use Rattle.std.proofs.lemmas.Bool.Decides.{nat_tests}
use Rattle.std.proofs.lemmas.List.{nil_from_length, length-drop}
use Rattle.apl_tokens.specs.declared.token.Kind.{Kind}
use Rattle.apl_tokens.specs.declared.token.Kind.TheVariants as kind
use Rattle.apl_tokens.specs.declared.token.Token.{Token}
use Rattle.apl_tokens.specs.declared.place.Place.{Place}
use Rattle.apl_tokens.specs.declared.place.Place.TheVariants.{Start, Named, Inside}
use Rattle.apl_tokens.specs.declared.brackets.Bracket.{Bracket}
use Rattle.apl_tokens.specs.declared.brackets.Side.{Side}
use Rattle.apl_tokens.specs.declared.brackets.Side.TheVariants.{Opens, Closes, Neither}
use Rattle.apl_tokens.specs.declared.measuring.Measure.{Measure}
use Rattle.apl_tokens.specs.declared.line.TokenError.TheVariants.{TooLong}
use Rattle.apl_tokens.specs.declared.reading.Run.TheVariants as run
use Rattle.apl_tokens.specs.Kinds.{is_name}
use Rattle.apl_tokens.specs.Spelling.{next_place}
use Rattle.apl_tokens.specs.Brackets.{same_bracket, kind_side, Open, innermost, after_side, unmatched}
use Rattle.apl_tokens.specs.Reading.{Reading, run_len, next_at}
use Rattle.apl_tokens.specs.Tokens.{Answer, token, after_blanks, with_token, from_reading, from_word, pieces_of, if_balanced, balanced, tokens_of}
use Rattle.apl_tokens.specs.Measures.{measure_of, measured, place_behind, turned, unless_refused}
use Rattle.apl_tokens.proofs.Steps.{front_len, word_le}
use Rattle.apl_tokens.proofs.Classes.{is_blank_class, not_blank}
use Rattle.apl_tokens.specs.Characters.{class_of, is_blank}
use Rattle.apl_tokens.proofs.Sound.{next_front}

-- what comes of the open brackets, if a token was not refused
abbrev pub if_turned : Option (List Bracket) → (List Bracket → Bool) → Bool
if_turned None next = false
if_turned (Some open_ones) next = next open_ones

-- behind these open brackets the tokens close all
abbrev closes : List Bracket → List Token → Bool
closes open_ones [] = length open_ones == 0
closes open_ones (t ∷ ts) = if_turned (turned (kind_side t.kind) open_ones) (λ o. closes o ts)

-- their columns do not matter
abbrev brackets : Open → List Bracket
brackets open_ones = map (λ o. o.0) open_ones

not_none : (n : ℕ) → (suc n == 0) ≡ false
not_none n = grind (arith, nat_tests)

closed_end : (open_ones : Open) → is_none (innermost open_ones) ≡ (length (brackets open_ones) == 0)
closed_end [] = refl
closed_end (o ∷ open_ones) = sym (not_none (length (brackets open_ones)))

closed_case : (b : Bool) (column : ℕ) (o : List Bracket) (x : Option ℕ) (next : List Bracket → Bool) → is_none x ≡ next o → is_none (cond b x (Some column)) ≡ if_turned (cond b (Some o) None) next
closed_case true column o x next h = h
closed_case false column o x next h = refl

closed_side : (side : Side) (column : ℕ) (open_ones : Open) (f : Open → Option ℕ) (next : List Bracket → Bool) → ((o : Open) → is_none (f o) ≡ next (brackets o))
    → is_none (after_side side column open_ones f) ≡ if_turned (turned side (brackets open_ones)) next
closed_side Neither column open_ones f next same = same open_ones
closed_side (Opens b) column open_ones f next same = same ((b, column) ∷ open_ones)
closed_side (Closes b) column [] f next same = refl
closed_side (Closes b) column (o ∷ open_ones) f next same = closed_case (same_bracket b o.0) column (brackets open_ones) (f open_ones) next (same open_ones)

closed : (open_ones : Open) (ts : List Token) → is_none (unmatched open_ones ts) ≡ closes (brackets open_ones) ts
unfolding unmatched
closed open_ones [] = closed_end open_ones
closed open_ones (t ∷ ts) = closed_side (kind_side t.kind) t.at open_ones (λ o. unmatched o ts) (λ o. closes o ts) (λ o. closed o ts)

-- behind these open brackets an answer is tokens that close all
abbrev pub accepted : List Bracket → Answer → Bool
accepted open_ones (Ok ts) = closes open_ones ts
accepted open_ones (Err e) = false

if_none : (ts : List Token) (o : Option ℕ) → is_ok (if_balanced ts o) ≡ is_none o
if_none ts None = refl
if_none ts (Some column) = refl

accepted_ok : (a : Answer) → accepted [] a ≡ is_ok (balanced a)
accepted_ok (Ok ts) = sym (if_none ts (unmatched [] ts) ∙ closed [] ts)
accepted_ok (Err e) = refl

refused : (o : Option (List Bracket)) → if_turned o (λ ones. false) ≡ false
refused None = refl
refused (Some ones) = refl

accepted_token : (open_ones : List Bracket) (t : Token) (a : Answer) → accepted open_ones (with_token t a) ≡ if_turned (turned (kind_side t.kind) open_ones) (λ o. accepted o a)
accepted_token open_ones t (Ok ts) = refl
accepted_token open_ones t (Err e) = sym (refused (turned (kind_side t.kind) open_ones))

-- the place behind a token
place_next : (place : Place) (k : Kind) → next_place place k ≡ place_behind place (is_name k)
place_next Start (kind.Constant ns) = refl
place_next Start (kind.Text text) = refl
place_next Start (kind.Name name) = refl
place_next Start (kind.System name) = refl
place_next Start (kind.Comment text) = refl
place_next Start (kind.Symbol symbol) = refl
place_next Named k = refl
place_next Inside k = refl

-- what is still to be read, behind these open brackets
pub record Checks (text : List ℕ) (open_ones : List Bracket) (place : Place) (rest : List ℕ) : Type 0 where
  pub fuel : ℕ
  pub enough : length rest < fuel
  pub same : accepted open_ones (pieces_of fuel (length text + 1) place rest) ≡ is_ok (tokens_of text)
  pub room : length open_ones + length rest ≤ 500

long_case : (b : Bool) (answer : Answer) → b ≡ true → is_ok (cond b (Err (TooLong 501)) answer) ≡ false
long_case true answer e = refl
long_case false answer e = absurd cc

short_case : (b : Bool) (answer : Answer) → b ≡ false → is_ok (cond b (Err (TooLong 501)) answer) ≡ is_ok answer
short_case true answer e = absurd cc
short_case false answer e = refl

lt_true : (n m : ℕ) → n < m → nat_lt n m ≡ true
lt_true n m h = grind (arith, nat_tests)

lt_false : (n m : ℕ) → m ≤ n → nat_lt n m ≡ false
lt_false n m h = grind (arith, nat_tests)

pub too_long : (text : List ℕ) → 500 < length text → false ≡ is_ok (tokens_of text)
unfolding tokens_of
too_long text h = sym (long_case (nat_lt 500 (length text)) _ (lt_true 500 (length text) h))

pub at_start : (text : List ℕ) → length text ≤ 500 → Checks text [] Start text
unfolding tokens_of
at_start text h = record {
  fuel = length text + 1;
  enough = omega arith;
  same = accepted_ok (pieces_of (length text + 1) (length text + 1) Start text) ∙ sym (short_case (nat_lt 500 (length text)) _ (lt_false 500 (length text) h));
  room = omega (arith, h);
}

-- one round, by the word behind the blanks
empty_round : (fuel end : ℕ) (place : Place) (rest : List ℕ) (open_ones : List Bracket) → length rest < fuel → after_blanks rest ≡ [] → accepted open_ones (pieces_of fuel end place rest) ≡ (length open_ones == 0)
unfolding pieces_of
empty_round zero end place rest open_ones lt e = absurd (omega (arith, lt))
empty_round (suc n) end place rest open_ones lt e = ap (λ w. accepted open_ones (from_word end place w (λ p r. pieces_of n end p r))) e

from_some : (end : ℕ) (place : Place) (word : List ℕ) (next : Place → List ℕ → Answer) → 0 < length word → from_word end place word next ≡ from_reading (end - length word) place word (next_at place word) next
from_some end place [] next lt = absurd (omega (arith, lt))
from_some end place (c ∷ word) next lt = refl

word_round : (n end : ℕ) (place : Place) (rest word : List ℕ) → word ≡ after_blanks rest → 0 < length word
    → pieces_of (suc n) end place rest ≡ from_reading (end - length word) place word (next_at place word) (λ p r. pieces_of n end p r)
unfolding pieces_of
word_round n end place rest word e lt = ap (λ w. from_word end place w (λ p r. pieces_of n end p r)) (sym e) ∙ from_some end place word (λ p r. pieces_of n end p r) lt

-- a fault ends it
none_reading : (open_ones : List Bracket) (column : ℕ) (place : Place) (word : List ℕ) (r : Reading) (next : Place → List ℕ → Answer) → measured r ≡ None → accepted open_ones (from_reading column place word r next) ≡ false
none_reading open_ones column place word (Ok piece) next e = absurd cc
none_reading open_ones column place word (Err f) next e = refl

-- a token turns the brackets, and then the rest is read
some_reading : (open_ones : List Bracket) (column : ℕ) (place : Place) (word : List ℕ) (r : Reading) (m : Measure) (next : Place → List ℕ → Answer) → measured r ≡ Some m
    → accepted open_ones (from_reading column place word r next) ≡ if_turned (turned m.side open_ones) (λ o. accepted o (next (place_behind place m.is_name) (drop m.len word)))
some_reading open_ones column place word (Ok (k, n)) m next e =
    let is : measure_of (k, n) ≡ m = cc in
    accepted_token open_ones (token k column) (next (next_place place k) (drop n word))
    ∙ ap (λ p. if_turned (turned (kind_side k) open_ones) (λ o. accepted o (next p (drop n word)))) (place_next place k)
    ∙ ap (λ (x : Measure). if_turned (turned x.side open_ones) (λ o. accepted o (next (place_behind place x.is_name) (drop x.len word)))) is
some_reading open_ones column place word (Err f) m next e = absurd cc

the_measure : (piece : Kind × ℕ) (m : Measure) → Some (measure_of piece) ≡ Some m → measure_of piece ≡ m
the_measure piece m h = cc

pub some_len : (place : Place) (word : List ℕ) (r : Reading) (m : Measure) → next_at place word ≡ r → measured r ≡ Some m → (m.len ≤ length word) × (0 < m.len)
some_len place word (Ok (k, n)) m is e =
    let same : n ≡ m.len = ap (λ (x : Measure). x.len) (the_measure (k, n) m e) in
    let f = front_len place k n word (next_front place word k n is) in
    (omega (arith, same, f.0), omega (arith, same, f.1))
some_len place word (Err f) m is e = absurd cc

-- a round of the loop: a blank rest ends it
pub ends : (text rest word : List ℕ) (open_ones : List Bracket) (place : Place) → Checks text open_ones place rest → word ≡ after_blanks rest → length word ≡ 0 → (length open_ones == 0) ≡ is_ok (tokens_of text)
ends text rest word open_ones place c w none = sym (empty_round c.fuel (length text + 1) place rest open_ones c.enough (sym w ∙ nil_from_length word none)) ∙ c.same

-- the same of a word
round : (text rest word : List ℕ) (open_ones : List Bracket) (place : Place) (n : ℕ) → word ≡ after_blanks rest → 0 < length word → accepted open_ones (pieces_of (suc n) (length text + 1) place rest) ≡ is_ok (tokens_of text)
    → accepted open_ones (from_reading (length text + 1 - length word) place word (next_at place word) (λ p r. pieces_of n (length text + 1) p r)) ≡ is_ok (tokens_of text)
round text rest word open_ones place n w some same = ap (accepted open_ones) (sym (word_round n (length text + 1) place rest word w some)) ∙ same

-- a word that begins with no token
breaks_at : (text rest word : List ℕ) (open_ones : List Bracket) (place : Place) (fuel : ℕ) → length rest < fuel → accepted open_ones (pieces_of fuel (length text + 1) place rest) ≡ is_ok (tokens_of text)
    → word ≡ after_blanks rest → 0 < length word → measured (next_at place word) ≡ None → false ≡ is_ok (tokens_of text)
breaks_at text rest word open_ones place zero lt same w some e = absurd (omega (arith, lt))
breaks_at text rest word open_ones place (suc n) lt same w some e = sym (none_reading open_ones _ place word (next_at place word) _ e) ∙ round text rest word open_ones place n w some same

pub breaks : (text rest word : List ℕ) (open_ones : List Bracket) (place : Place) → Checks text open_ones place rest → word ≡ after_blanks rest → (length word ≡ 0 → ⊥) → measured (next_at place word) ≡ None → false ≡ is_ok (tokens_of text)
breaks text rest word open_ones place c w some e = breaks_at text rest word open_ones place c.fuel c.enough c.same w (omega (arith, some)) e

-- one that begins with a token
token_at : (text rest word : List ℕ) (open_ones : List Bracket) (place : Place) (m : Measure) (fuel : ℕ) → length rest < fuel → accepted open_ones (pieces_of fuel (length text + 1) place rest) ≡ is_ok (tokens_of text)
    → word ≡ after_blanks rest → 0 < length word → measured (next_at place word) ≡ Some m
    → (n : ℕ) × (fuel ≡ suc n) × (if_turned (turned m.side open_ones) (λ o. accepted o (pieces_of n (length text + 1) (place_behind place m.is_name) (drop m.len word))) ≡ is_ok (tokens_of text))
token_at text rest word open_ones place m zero lt same w some e = absurd (omega (arith, lt))
token_at text rest word open_ones place m (suc n) lt same w some e = (n, refl, sym (some_reading open_ones _ place word (next_at place word) m _ e) ∙ round text rest word open_ones place n w some same)

-- whose bracket is refused
pub refuses : (text rest word : List ℕ) (open_ones new : List Bracket) (place : Place) (m : Measure) (b : Bool) → Checks text open_ones place rest → word ≡ after_blanks rest → (length word ≡ 0 → ⊥) → measured (next_at place word) ≡ Some m
    → turned m.side open_ones ≡ unless_refused b new → b ≡ false → false ≡ is_ok (tokens_of text)
refuses text rest word open_ones new place m b c w some e turn is =
    let t = token_at text rest word open_ones place m c.fuel c.enough c.same w (omega (arith, some)) e in
    let none : turned m.side open_ones ≡ None = turn ∙ ap (λ x. unless_refused x new) is in
    rw none at t.2

one_less : (b : Bool) (o : Bracket) (open_ones new : List Bracket) → cond b (Some open_ones) None ≡ Some new → length new ≤ suc (suc (length open_ones))
one_less true o open_ones new e = let same : open_ones ≡ new = cc in omega (arith, ap length same)
one_less false o open_ones new e = absurd cc

one_deeper : (side : Side) (open_ones new : List Bracket) → turned side open_ones ≡ Some new → length new ≤ suc (length open_ones)
one_deeper Neither open_ones new e = let same : open_ones ≡ new = cc in omega (arith, ap length same)
one_deeper (Opens b) open_ones new e = let same : b ∷ open_ones ≡ new = cc in omega (arith, ap length same)
one_deeper (Closes b) [] new e = absurd cc
one_deeper (Closes b) (o ∷ open_ones) new e = one_less (same_bracket b o) o open_ones new e

-- the leading blank is passed over
blank_front : (c : ℕ) (after : List ℕ) (b : Bool) → is_blank (class_of c) ≡ b → b ≡ true → after_blanks (c ∷ after) ≡ after_blanks after
blank_front c after b e t =
    let one : 1 + run_len run.Blanks after ≡ suc (run_len run.Blanks after) = omega arith in
    rw (e, t, one) refl

word_front : (c : ℕ) (after : List ℕ) → is_blank (class_of c) ≡ false → after_blanks (c ∷ after) ≡ c ∷ after
word_front c after e = rw e refl

blank_round : (fuel end : ℕ) (place : Place) (c : ℕ) (after : List ℕ) → is_blank (class_of c) ≡ true → pieces_of fuel end place (c ∷ after) ≡ pieces_of fuel end place after
unfolding pieces_of
blank_round zero end place c after e = refl
blank_round (suc n) end place c after e = ap (λ w. from_word end place w (λ p r. pieces_of n end p r)) (blank_front c after true e refl)

pub passes : (text rest after : List ℕ) (c : ℕ) (open_ones : List Bracket) (place : Place) → Checks text open_ones place rest → rest ≡ c ∷ after → c ≡ 32 → Checks text open_ones place after
passes text rest after c open_ones place k is blank =
    let one : length rest ≡ suc (length after) = ap length is in
    record {
      fuel = k.fuel;
      enough = omega (arith, one, k.enough);
      same = ap (accepted open_ones) (sym (blank_round k.fuel (length text + 1) place c after (is_blank_class c blank)) ∙ ap (λ r. pieces_of k.fuel (length text + 1) place r) (sym is)) ∙ k.same;
      room = omega (arith, one, k.room);
    }

-- another character begins a word
pub word_is : (rest after : List ℕ) (c : ℕ) → rest ≡ c ∷ after → (c ≡ 32 → ⊥) → rest ≡ after_blanks rest
word_is rest after c is other = is ∙ sym (ap after_blanks is ∙ word_front c after (not_blank c other))

pub not_empty : (rest after : List ℕ) (c : ℕ) → rest ≡ c ∷ after → length rest ≡ 0 → ⊥
not_empty rest after c is none = let one = ap length is in omega (arith, one, none)

-- or taken
pub goes_on : (text rest word after : List ℕ) (open_ones new : List Bracket) (place next : Place) (m : Measure) (b : Bool) → Checks text open_ones place rest → word ≡ after_blanks rest → (length word ≡ 0 → ⊥) → measured (next_at place word) ≡ Some m
    → turned m.side open_ones ≡ unless_refused b new → b ≡ true → next ≡ place_behind place m.is_name → after ≡ drop m.len word → Checks text new next after
goes_on text rest word after open_ones new place next m b c w some e turn is behind cut =
    let t = token_at text rest word open_ones place m c.fuel c.enough c.same w (omega (arith, some)) e in
    let taken : turned m.side open_ones ≡ Some new = turn ∙ ap (λ x. unless_refused x new) is in
    let len = some_len place word (next_at place word) m refl e in
    let shorter : length word ≤ length rest = omega (arith, ap length w, word_le rest) in
    let left : length after + m.len ≡ length word = omega (arith, ap length cut, length-drop m.len word, len.0) in
    record {
      fuel = t.0;
      enough = omega (arith, t.1, c.enough, shorter, left, len.1);
      same = rw (behind, cut) (rw taken at t.2);
      room = omega (arith, c.room, one_deeper m.side open_ones new taken, shorter, left, len.1);
    }
