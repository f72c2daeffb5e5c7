-- What is read is spelled so.
use Rattle.std.proofs.Common.{◌≡◌, ℕ, ◌+◌, ◌<◌, Bool, true, false, not, ◌&&◌, ◌||◌, ◌⊎◌, cond, List, [], ◌∷◌, ◌++◌, length, take, drop, Option, Some, None, Ok, refl, sym, ap, subst, ◌∙◌, arith, inl, inr, leb, eqb}
use Rattle.std.proofs.lemmas.Bool.{leb-true, eqb-false}
use Rattle.std.proofs.lemmas.List.{take-append-drop, length-take, get_or-take, append-nil}
use Rattle.std.proofs.lemmas.List.Concat.{flat_map-cons}
use Rattle.std.specs.List.{flat_map, find}
use Rattle.std.specs.Str.Parse.{digits_value}
use Rattle.std.proofs.lemmas.List.Sums.{prefix_len-le-length}
use Rattle.apl_tokens.specs.declared.class.Class.{Class}
use Rattle.apl_tokens.specs.declared.class.Class.TheVariants as class
use Rattle.apl_tokens.specs.declared.token.Kind.{Kind}
use Rattle.apl_tokens.specs.declared.token.Kind.TheVariants as kind
use Rattle.apl_symbols.specs.declared.symbol.Symbol.{Symbol}
use Rattle.apl_symbols.specs.declared.symbol.Symbol.TheVariants.{Quad}
use Rattle.apl_symbols.specs.declared.system.SystemName.{SystemName}
use Rattle.apl_symbols.specs.SystemNames.{letters_of, system_names, system_named}
use Rattle.std.specs.Str.{bytes_eq}
use Rattle.std.specs.Cmp.Lexicographic.{same_text}
use Rattle.apl_tokens.specs.declared.place.Place.{Place}
use Rattle.apl_tokens.specs.declared.reading.Run.TheVariants as run
use Rattle.apl_tokens.specs.Characters.{class_of, is_digit, is_letter, is_in_name, is_quote, ends_number}
use Rattle.apl_tokens.specs.Spelling.{class_at, signed, number_of, in_range, doubled, is_quad, is_colon, is_named}
use Rattle.apl_tokens.specs.Reading.{Reading, run_len, sign_len, number_of_len, number_at, name_of_len, name_at, body_at, with_character, one_more, as_text, text_at, as_system, quad_at, symbol_at, next_of, next_at}
use Rattle.apl_tokens.proofs.Classes.{minus_is, quote_is, lamp_is, symbol_is, quote_class, no_class}
use Rattle.apl_tokens.proofs.Runs.{run_passes, run_stops}
use Rattle.apl_tokens.proofs.Fronts.{Front}

-- which way a test went
chosen : {A : Type 0} (b : Bool) (x y z : A) → cond b x y ≡ z → ((b ≡ true) × (x ≡ z)) ⊎ ((b ≡ false) × (y ≡ z))
chosen true x y z e = inl (refl, e)
chosen false x y z e = inr (refl, e)

abbrev pub ok : Kind → ℕ → Reading
ok k n = Ok (k, n)

pub ok_parts : (a b : Kind) (m n : ℕ) → ok a m ≡ ok b n → (a ≡ b) × (m ≡ n)
ok_parts a b m n e =
    let pair : (x y : Kind × ℕ) → x ≡ y → (x.0 ≡ y.0) × (x.1 ≡ y.1) = λ x y p. (ap (λ (z : Kind × ℕ). z.0) p, ap (λ (z : Kind × ℕ). z.1) p) in
    let same : (a, m) ≡ (b, n) = cc in
    pair (a, m) (b, n) same

number_parts : (negative : Bool) (rest : List ℕ) (n : ℕ) (k : Kind) (m : ℕ) → number_of_len negative rest n ≡ Ok (k, m)
    → (0 < n) × (in_range negative (digits_value 10 (take n rest)) ≡ true) × (ends_number (class_at (drop n rest)) ≡ true) × (k ≡ kind.Constant (number_of negative (take n rest) ∷ [])) × (m ≡ sign_len negative + n)
number_parts negative rest n k m e =
    elim (chosen (eqb n 0) _ _ _ e) [
      | inl none ↦ absurd (let w = none.1 in cc)
      | inr some ↦ elim (chosen (in_range negative (digits_value 10 (take n rest))) _ _ _ some.1) [
        | inr big ↦ absurd (let w = big.1 in cc)
        | inl fits ↦ elim (chosen (ends_number (class_at (drop n rest))) _ _ _ fits.1) [
          | inr goes_on ↦ absurd (let w = goes_on.1 in cc)
          | inl ends ↦ let same = ok_parts _ _ _ _ ends.1 in (omega (arith, eqb-false n 0 some.0), fits.0, ends.0, sym same.0, sym same.1)
        ]
      ]
    ]

sign_at : (negative : Bool) (digits after : List ℕ) → signed negative (digits ++ after) ≡ signed negative digits ++ after
sign_at true digits after = refl
sign_at false digits after = refl

sign_adds : (negative : Bool) (digits : List ℕ) → length (signed negative digits) ≡ sign_len negative + length digits
sign_adds true digits = omega arith
sign_adds false digits = omega arith

number_front : (negative : Bool) (rest : List ℕ) (place : Place) (k : Kind) (m : ℕ) → number_at negative rest ≡ Ok (k, m) → Front place k m (signed negative rest)
unfolding number_at
number_front negative rest place k m e =
    let n = run_len run.Digits rest in
    let p = number_parts negative rest n k m e in
    let within = prefix_len-le-length (λ c. is_digit (class_of c)) rest in
    let digits = take n rest in
    let len : length digits ≡ n = omega (arith, length-take n rest) in
    subst (λ (x : Kind). Front place x m (signed negative rest)) (sym p.3) (record {
      word = signed negative digits;
      after = drop n rest;
      parts = ap (λ (t : List ℕ). signed negative t) (sym (take-append-drop n rest)) ∙ sign_at negative digits (drop n rest);
      len = sign_adds negative digits ∙ omega (arith, len, p.4);
      some = omega (arith, p.0, p.4);
      spelled = record {
        negative = negative;
        digits = digits;
        word_is = refl;
        some = omega (arith, len, p.0);
        digits_are = run_passes (λ c. is_digit (class_of c)) rest;
        value = refl;
        fits = p.1;
      };
      ends = p.2;
      stands = refl;
    })

name_front-len : (rest : List ℕ) (place : Place) (k : Kind) (n m : ℕ) → n ≡ run_len run.Name rest → 0 < n → class_at rest ≡ class.Letter → name_of_len rest n ≡ Ok (k, m) → Front place k m rest
name_front-len rest place k n m is some letter e =
    elim (chosen (leb n 32) _ _ _ e) [
      | inr long ↦ absurd (let w = long.1 in cc)
      | inl short ↦
          let same = ok_parts _ _ _ _ short.1 in
          let within = prefix_len-le-length (λ c. is_in_name (class_of c)) rest in
          let word = take n rest in
          let len : length word ≡ n = omega (arith, length-take n rest, is) in
          subst (λ (x : Kind). Front place x m rest) same.0 (record {
            word = word;
            after = drop n rest;
            parts = sym (take-append-drop n rest);
            len = len ∙ same.1;
            some = omega (arith, same.1);
            spelled = (refl, record { letter = rw (get_or-take n rest 0 0 some) letter; goes_on = rw is (run_passes (λ c. is_in_name (class_of c)) rest); short = omega (arith, len, leb-true n 32 short.0) });
            ends = rw is (run_stops (λ c. is_in_name (class_of c)) rest (rw no_class refl));
            stands = refl;
          })
    ]

letter_run : (k : Class) → k ≡ class.Letter → is_in_name k ≡ true
letter_run k e = rw e refl

name_front : (c : ℕ) (rest : List ℕ) (place : Place) (k : Kind) (m : ℕ) → class_of c ≡ class.Letter → name_at (c ∷ rest) ≡ Ok (k, m) → Front place k m (c ∷ rest)
unfolding name_at
name_front c rest place k m letter e =
    let some : 0 < run_len run.Name (c ∷ rest) = rw (letter_run _ letter) (omega arith) in
    name_front-len (c ∷ rest) place k (run_len run.Name (c ∷ rest)) m refl some letter e

-- the rest of a text, after the quote that stood before it
abbrev before : Bool → List ℕ → List ℕ
before true rest = 39 ∷ rest
before false rest = rest

record Body (quoted : Bool) (rest text : List ℕ) (n : ℕ) : Type 0 where
  word : List ℕ
  after : List ℕ
  parts : rest ≡ word ++ after
  len : length word ≡ n
  spelled : before quoted word ≡ flat_map doubled text ++ 39 ∷ []
  ends : is_quote (class_at after) ≡ false

abbrev some : List ℕ → ℕ → Option (List ℕ × ℕ)
some text n = Some (text, n)

some_parts : (a b : List ℕ) (m n : ℕ) → some a m ≡ some b n → (a ≡ b) × (m ≡ n)
some_parts a b m n e =
    let pair : (x y : List ℕ × ℕ) → x ≡ y → (x.0 ≡ y.0) × (x.1 ≡ y.1) = λ x y p. (ap (λ (z : List ℕ × ℕ). z.0) p, ap (λ (z : List ℕ × ℕ). z.1) p) in
    let same : (a, m) ≡ (b, n) = cc in
    pair (a, m) (b, n) same

pub plain_text : (c : ℕ) (cs : List ℕ) → is_quote (class_of c) ≡ false → flat_map doubled (c ∷ cs) ≡ c ∷ flat_map doubled cs
plain_text c cs q = rw (flat_map-cons doubled c cs, q) refl

pub quote_text : (c : ℕ) (cs : List ℕ) → is_quote (class_of c) ≡ true → flat_map doubled (c ∷ cs) ≡ 39 ∷ 39 ∷ flat_map doubled cs
quote_text c cs q = rw (flat_map-cons doubled c cs, q) refl

one_more_parts : (read : Option (List ℕ × ℕ)) (text : List ℕ) (n : ℕ) → one_more read ≡ Some (text, n) → (m : ℕ) × (read ≡ Some (text, m)) × (n ≡ 1 + m)
one_more_parts None text n e = absurd cc
one_more_parts (Some body) text n e = let p = some_parts body.0 text (1 + body.1) n e in (body.1, ap (λ (t : List ℕ). Some (t, body.1)) p.0, sym p.1)

with_parts : (c : ℕ) (read : Option (List ℕ × ℕ)) (text : List ℕ) (n : ℕ) → with_character c read ≡ Some (text, n) → (cs : List ℕ) × (m : ℕ) × (read ≡ Some (cs, m)) × (text ≡ c ∷ cs) × (n ≡ 1 + m)
with_parts c None text n e = absurd cc
with_parts c (Some body) text n e = let p = some_parts (c ∷ body.0) text (1 + body.1) n e in (body.0, body.1, refl, sym p.0, sym p.1)

plain_more : (c : ℕ) (cs text word : List ℕ) → text ≡ c ∷ cs → is_quote (class_of c) ≡ false → word ≡ flat_map doubled cs ++ 39 ∷ [] → c ∷ word ≡ flat_map doubled text ++ 39 ∷ []
plain_more c cs text word e q h = rw (e, plain_text c cs q) (ap (λ (t : List ℕ). c ∷ t) h)

quote_more : (c : ℕ) (cs text word : List ℕ) → text ≡ c ∷ cs → is_quote (class_of c) ≡ true → word ≡ flat_map doubled cs ++ 39 ∷ [] → 39 ∷ c ∷ word ≡ flat_map doubled text ++ 39 ∷ []
quote_more c cs text word e q h = rw (e, quote_text c cs q) (ap (λ (x : ℕ). 39 ∷ x ∷ word) (quote_is c (quote_class _ q)) ∙ ap (λ (t : List ℕ). 39 ∷ 39 ∷ t) h)

body_front : (quoted : Bool) (rest text : List ℕ) (n : ℕ) → body_at quoted rest ≡ Some (text, n) → Body quoted rest text n
unfolding body_at
body_front false [] text n e = absurd cc
body_front true [] text n e =
    let p = some_parts [] text 0 n e in
    record { word = []; after = []; parts = refl; len = p.1; spelled = rw (← p.0) refl; ends = rw no_class refl }
body_front false (c ∷ rest) text n e =
    elim (chosen (is_quote (class_of c)) _ _ _ e) [
      | inl quote ↦
          let p = one_more_parts _ _ _ quote.1 in
          let b = body_front true rest text p.0 p.1 in
          let same : c ≡ 39 = quote_is c (quote_class _ quote.0) in
          record {
            word = c ∷ b.word;
            after = b.after;
            parts = ap (λ (t : List ℕ). c ∷ t) b.parts;
            len = omega (arith, b.len, p.2);
            spelled = ap (λ (x : ℕ). x ∷ b.word) same ∙ b.spelled;
            ends = b.ends;
          }
      | inr other ↦
          let p = with_parts _ _ _ _ other.1 in
          let b = body_front false rest p.0 p.1 p.2 in
          record {
            word = c ∷ b.word;
            after = b.after;
            parts = ap (λ (t : List ℕ). c ∷ t) b.parts;
            len = omega (arith, b.len, p.4);
            spelled = plain_more c p.0 text b.word p.3 other.0 b.spelled;
            ends = b.ends;
          }
    ]
body_front true (c ∷ rest) text n e =
    elim (chosen (is_quote (class_of c)) _ _ _ e) [
      | inl quote ↦
          let p = with_parts _ _ _ _ quote.1 in
          let b = body_front false rest p.0 p.1 p.2 in
          let same : c ≡ 39 = quote_is c (quote_class _ quote.0) in
          record {
            word = c ∷ b.word;
            after = b.after;
            parts = ap (λ (t : List ℕ). c ∷ t) b.parts;
            len = omega (arith, b.len, p.4);
            spelled = quote_more c p.0 text b.word p.3 quote.0 b.spelled;
            ends = b.ends;
          }
      | inr other ↦
          let p = some_parts _ _ _ _ other.1 in
          record { word = []; after = c ∷ rest; parts = refl; len = p.1; spelled = rw (← p.0) refl; ends = other.0 }
    ]

text_read : (read : Option (List ℕ × ℕ)) (k : Kind) (m : ℕ) → as_text read ≡ Ok (k, m) → (text : List ℕ) × (n : ℕ) × (read ≡ Some (text, n)) × (k ≡ kind.Text text) × (m ≡ 1 + n)
text_read None k m e = absurd cc
text_read (Some body) k m e = let p = ok_parts _ _ _ _ e in (body.0, body.1, refl, sym p.0, sym p.1)

text_front : (c : ℕ) (rest : List ℕ) (place : Place) (k : Kind) (m : ℕ) → class_of c ≡ class.Quote → text_at rest ≡ Ok (k, m) → Front place k m (c ∷ rest)
unfolding text_at
text_front c rest place k m quote e =
    let p = text_read _ k m e in
    let b = body_front false rest p.0 p.1 p.2 in
    subst (λ (x : Kind). Front place x m (c ∷ rest)) (sym p.3) (record {
      word = c ∷ b.word;
      after = b.after;
      parts = ap (λ (t : List ℕ). c ∷ t) b.parts;
      len = omega (arith, b.len, p.4);
      some = omega (arith, p.4);
      spelled = rw (quote_is c quote) (ap (λ (t : List ℕ). 39 ∷ t) b.spelled);
      ends = b.ends;
      stands = refl;
    })

-- a token of one character
one_front : (symbol : Symbol) (c : ℕ) (rest : List ℕ) (place : Place) (k : Kind) (m : ℕ) → class_of c ≡ class.Symbol symbol → (is_quad symbol && is_letter (class_at rest)) ≡ false → (not (is_colon symbol) || is_named place) ≡ true
    → ok (kind.Symbol symbol) 1 ≡ ok k m → Front place k m (c ∷ rest)
one_front symbol c rest place k m of_class ends stands e =
    let p = ok_parts _ _ _ _ e in
    subst (λ (x : Kind). Front place x m (c ∷ rest)) p.0 (record {
      word = c ∷ [];
      after = rest;
      parts = refl;
      len = p.1;
      some = omega (arith, p.1);
      spelled = ap (λ (x : ℕ). x ∷ []) (sym (symbol_is c symbol of_class));
      ends = ends;
      stands = stands;
    })

comment_front : (c : ℕ) (rest : List ℕ) (place : Place) (k : Kind) (m : ℕ) → class_of c ≡ class.Lamp → ok (kind.Comment rest) (1 + length rest) ≡ ok k m → Front place k m (c ∷ rest)
comment_front c rest place k m lamp e =
    let p = ok_parts _ _ _ _ e in
    subst (λ (x : Kind). Front place x m (c ∷ rest)) p.0 (record {
      word = c ∷ rest;
      after = [];
      parts = sym (append-nil (c ∷ rest));
      len = omega (arith, p.1);
      some = omega (arith, p.1);
      spelled = ap (λ (x : ℕ). x ∷ rest) (lamp_is c lamp);
      ends = refl;
      stands = refl;
    })

-- one of the system names, or none
named_step : (name : List ℕ) (b : Bool) (first s : SystemName) (rest : Option SystemName) → (bytes_eq name (letters_of first) ≡ b) → (rest ≡ Some s → name ≡ letters_of s) → cond b (Some first) rest ≡ Some s → name ≡ letters_of s
named_step name true first s rest here more h =
    let same : first ≡ s = cc in
    subst (λ (x : SystemName). name ≡ letters_of x) same (same_text name (letters_of first) (sym here))
named_step name false first s rest here more h = more h

named_among : (table : List SystemName) (name : List ℕ) (s : SystemName) → find (λ x. bytes_eq name (letters_of x)) table ≡ Some s → name ≡ letters_of s
named_among [] name s h = absurd cc
named_among (first ∷ table) name s h = named_step name (bytes_eq name (letters_of first)) first s _ refl (named_among table name s) h

named_is : (name : List ℕ) (s : SystemName) → system_named name ≡ Some s → name ≡ letters_of s
unfolding system_named
named_is name s h = named_among system_names name s h

system_read : (o : Option SystemName) (n : ℕ) (k : Kind) (m : ℕ) → as_system o n ≡ Ok (k, m) → (s : SystemName) × (o ≡ Some s) × (k ≡ kind.System s) × (m ≡ 1 + n)
system_read None n k m e = absurd cc
system_read (Some s) n k m e = let p = ok_parts _ _ _ _ e in (s, refl, sym p.0, sym p.1)

-- the quad is a symbol, or begins a system name
quad_front : (c : ℕ) (rest : List ℕ) (place : Place) (k : Kind) (m : ℕ) → class_of c ≡ class.Symbol Quad → quad_at rest ≡ Ok (k, m) → Front place k m (c ∷ rest)
unfolding quad_at
quad_front c rest place k m h e =
    elim (chosen (is_letter (class_at rest)) _ _ _ e) [
      | inr other ↦ one_front Quad c rest place k m h other.0 refl other.1
      | inl letter ↦
          let n = run_len run.Name rest in
          let p = system_read _ n k m letter.1 in
          let within = prefix_len-le-length (λ c. is_in_name (class_of c)) rest in
          let name : take n rest ≡ letters_of p.0 = named_is (take n rest) p.0 p.1 in
          let quad : 0x2395 ≡ c = symbol_is c Quad h in
          subst (λ (x : Kind). Front place x m (c ∷ rest)) (sym p.2) (record {
            word = c ∷ take n rest;
            after = drop n rest;
            parts = ap (λ (t : List ℕ). c ∷ t) (sym (take-append-drop n rest));
            len = omega (arith, length-take n rest, p.3);
            some = omega (arith, p.3);
            spelled = ap (λ (x : ℕ). x ∷ take n rest) (sym quad) ∙ ap (λ (t : List ℕ). 0x2395 ∷ t) name;
            ends = run_stops (λ c. is_in_name (class_of c)) rest (rw no_class refl);
            stands = refl;
          })
    ]

pub quad_is : (s : Symbol) → is_quad s ≡ true → s ≡ Quad
quad_is Quad h = refl
quad_is _ h = absurd cc

-- a symbol that is no quad and may stand there
may_stand_so : (colon named : Bool) → (colon && not named) ≡ false → (not colon || named) ≡ true
may_stand_so true true h = refl
may_stand_so true false h = absurd cc
may_stand_so false named h = refl

symbol_front : (symbol : Symbol) (c : ℕ) (rest : List ℕ) (place : Place) (k : Kind) (m : ℕ) → class_of c ≡ class.Symbol symbol → symbol_at symbol place rest ≡ Ok (k, m) → Front place k m (c ∷ rest)
unfolding symbol_at
symbol_front symbol c rest place k m h e =
    elim (chosen (is_quad symbol) _ _ _ e) [
      | inl quad ↦ quad_front c rest place k m (h ∙ ap class.Symbol (quad_is symbol quad.0)) quad.1
      | inr other ↦ elim (chosen (is_colon symbol && not (is_named place)) _ _ _ other.1) [
        | inl stray ↦ absurd (let w = stray.1 in cc)
        | inr stands ↦ one_front symbol c rest place k m h (rw other.0 refl) (may_stand_so _ _ stands.0) stands.1
      ]
    ]

next_front-of : (class : Class) (place : Place) (c : ℕ) (rest : List ℕ) (k : Kind) (m : ℕ) → class_of c ≡ class → next_of class place c rest ≡ Ok (k, m) → Front place k m (c ∷ rest)
unfolding next_of
next_front-of class.Digit place c rest k m h e = number_front false (c ∷ rest) place k m e
next_front-of class.Minus place c rest k m h e = rw (minus_is c h) (number_front true rest place k m e)
next_front-of class.Quote place c rest k m h e = text_front c rest place k m h e
next_front-of class.Letter place c rest k m h e = name_front c rest place k m h e
next_front-of class.Lamp place c rest k m h e = comment_front c rest place k m h e
next_front-of (class.Symbol symbol) place c rest k m h e = symbol_front symbol c rest place k m h e
next_front-of class.Other place c rest k m h e = absurd cc
next_front-of class.Blank place c rest k m h e = absurd cc

-- the token that is read stands at the start
pub next_front : (place : Place) (text : List ℕ) (k : Kind) (m : ℕ) → next_at place text ≡ Ok (k, m) → Front place k m text
unfolding next_at
next_front place [] k m e = absurd cc
next_front place (c ∷ rest) k m e = next_front-of (class_of c) place c rest k m refl e
