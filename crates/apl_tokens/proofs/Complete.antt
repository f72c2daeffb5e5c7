-- What is spelled so is read.
use Rattle.std.proofs.Common.{◌≡◌, ℕ, zero, suc, ◌+◌, ◌<◌, ◌≤◌, Bool, true, false, not, ◌&&◌, ◌||◌, List, [], ◌∷◌, ◌++◌, length, Some, Ok, ℤ, refl, sym, subst, ◌∙◌, append_assoc, arith}
use Rattle.std.proofs.lemmas.Bool.{le-leb}
use Rattle.std.proofs.Math.Dec.{eqb-suc-zero}
use Rattle.std.proofs.lemmas.List.{take_at, drop_at, length-append, append-nil}
use Rattle.std.specs.List.{flat_map}
use Rattle.std.specs.Str.Parse.{digits_value}
use Rattle.apl_tokens.specs.declared.class.Class.{Class}
use Rattle.apl_tokens.specs.declared.class.Class.TheVariants as class
use Rattle.apl_tokens.specs.declared.token.Kind.{Kind}
use Rattle.apl_tokens.specs.declared.token.Kind.TheVariants as kind
use Rattle.apl_symbols.specs.declared.symbol.Symbol.{Symbol}
use Rattle.apl_symbols.specs.declared.symbol.Symbol.TheVariants.{Quad}
use Rattle.apl_symbols.specs.declared.system.SystemName.{SystemName}
use Rattle.apl_symbols.specs.declared.system.SystemName.TheVariants.{Origin, LineCounter, NameClass, Stop, Trace}
use Rattle.apl_symbols.specs.Glyphs.{glyph_of}
use Rattle.apl_symbols.specs.SystemNames.{letters_of, system_named}
use Rattle.apl_tokens.specs.declared.place.Place.{Place}
use Rattle.apl_tokens.specs.declared.reading.Run.TheVariants as run
use Rattle.apl_tokens.specs.Characters.{class_of, is_digit, is_letter, is_in_name, is_quote, ends_number}
use Rattle.apl_tokens.specs.Spelling.{class_at, signed, number_of, in_range, IsNumber, IsName, IsSpelled, Ends, doubled, is_quad, is_colon, is_named, may_stand, all_in_name, all_digits}
use Rattle.apl_tokens.specs.Reading.{run_len, sign_len, number_of_len, number_at, name_at, body_at, text_at, quad_at, symbol_at, next_of, next_at}
use Rattle.apl_tokens.proofs.Classes.{and_left, quote_is, quote_class, digit_class, minus_class, quote_char, lamp_class, glyph_class, no_class}
use Rattle.apl_tokens.proofs.Runs.{run_exact}
use Rattle.apl_tokens.proofs.Sound.{plain_text, quote_text, quad_is}

no_digit : (k : Class) → ends_number k ≡ true → is_digit k ≡ false
no_digit class.Digit h = absurd cc
no_digit _ h = refl

number_again-len : (negative : Bool) (digits after : List ℕ) (n : ℕ) → n ≡ length digits → 0 < n → in_range negative (digits_value 10 digits) ≡ true → ends_number (class_at after) ≡ true
    → number_of_len negative (digits ++ after) n ≡ Ok (kind.Constant (number_of negative digits ∷ []), sign_len negative + n)
number_again-len negative digits after zero is some fits ends = absurd (omega arith)
number_again-len negative digits after (suc n) is some fits ends = rw (eqb-suc-zero n, take_at digits after (suc n) (sym is), drop_at digits after (suc n) (sym is), fits, ends) refl

number_again : (negative : Bool) (digits after : List ℕ) → 0 < length digits → all_digits digits ≡ true → in_range negative (digits_value 10 digits) ≡ true → ends_number (class_at after) ≡ true
    → number_at negative (digits ++ after) ≡ Ok (kind.Constant (number_of negative digits ∷ []), sign_len negative + length digits)
unfolding number_at
number_again negative digits after some all fits ends =
    let run : run_len run.Digits (digits ++ after) ≡ length digits = run_exact (λ c. is_digit (class_of c)) digits after all (no_digit (class_at after) ends) in
    rw run (number_again-len negative digits after (length digits) refl some fits ends)

signed_again : (negative : Bool) (digits after : List ℕ) (place : Place) → 0 < length digits → all_digits digits ≡ true → in_range negative (digits_value 10 digits) ≡ true → ends_number (class_at after) ≡ true
    → next_at place (signed negative digits ++ after) ≡ Ok (kind.Constant (number_of negative digits ∷ []), length (signed negative digits))
unfolding next_at next_of
signed_again true digits after place some all fits ends =
    let n : suc (length digits) ≡ 1 + length digits = omega arith in
    rw (minus_class, n) (number_again true digits after some all fits ends)
signed_again false [] after place some all fits ends = absurd (omega arith)
signed_again false (d ∷ digits) after place some all fits ends =
    let digit : class_of d ≡ class.Digit = digit_class _ (and_left _ _ all) in
    let n : 0 + suc (length digits) ≡ suc (length digits) = omega arith in
    rw digit (number_again false (d ∷ digits) after some all fits ends ∙ rw n refl)

spelled_number : (n : ℤ) (word after : List ℕ) (place : Place) → IsNumber n word → ends_number (class_at after) ≡ true → next_at place (word ++ after) ≡ Ok (kind.Constant (n ∷ []), length word)
spelled_number n word after place h ends = rw (h.word_is, h.value) (signed_again h.negative h.digits after place h.some h.digits_are h.fits ends)

name_again : (word after : List ℕ) → length word ≤ 32 → all_in_name word ≡ true → is_in_name (class_at after) ≡ false → name_at (word ++ after) ≡ Ok (kind.Name word, length word)
unfolding name_at
name_again word after short all ends =
    let run : run_len run.Name (word ++ after) ≡ length word = run_exact (λ c. is_in_name (class_of c)) word after all ends in
    rw (run, le-leb (length word) 32 short, take_at word after (length word) refl) refl

spelled_name : (word after : List ℕ) (place : Place) → IsName word → is_in_name (class_at after) ≡ false → next_at place (word ++ after) ≡ Ok (kind.Name word, length word)
unfolding next_at next_of
spelled_name [] after place h ends = absurd (let end = no_class in let letter = h.letter in cc)
spelled_name (c ∷ word) after place h ends =
    let letter : class_of c ≡ class.Letter = h.letter in
    rw letter (name_again (c ∷ word) after h.short h.goes_on ends)

-- a text's characters, its closing quote, and what isn't a quote
closed : (after : List ℕ) → is_quote (class_at after) ≡ false → body_at true after ≡ Some ([], 0)
unfolding body_at
closed [] h = refl
closed (c ∷ after) h = let q : is_quote (class_of c) ≡ false = h in rw q refl

body_more : (c : ℕ) (text after : List ℕ) (b : Bool) → is_quote (class_of c) ≡ b → body_at false (flat_map doubled text ++ 39 ∷ after) ≡ Some (text, 1 + length (flat_map doubled text))
    → body_at false (flat_map doubled (c ∷ text) ++ 39 ∷ after) ≡ Some (c ∷ text, 1 + length (flat_map doubled (c ∷ text)))
unfolding body_at
body_more c text after true q h =
    let same : c ≡ 39 = quote_is c (quote_class _ q) in
    rw (quote_text c text q, quote_char, h, same) (let n : 1 + (1 + (1 + length (flat_map doubled text))) ≡ 1 + suc (suc (length (flat_map doubled text))) = omega arith in rw n refl)
body_more c text after false q h =
    rw (plain_text c text q, q, h) (let n : 1 + (1 + length (flat_map doubled text)) ≡ 1 + suc (length (flat_map doubled text)) = omega arith in rw n refl)

body_again : (text after : List ℕ) → is_quote (class_at after) ≡ false → body_at false (flat_map doubled text ++ 39 ∷ after) ≡ Some (text, 1 + length (flat_map doubled text))
unfolding body_at
body_again [] after ends = rw (quote_char, closed after ends) refl
body_again (c ∷ text) after ends = body_more c text after (is_quote (class_of c)) refl (body_again text after ends)

spelled_text : (text after : List ℕ) (place : Place) → is_quote (class_at after) ≡ false → next_at place ((39 ∷ (flat_map doubled text ++ 39 ∷ [])) ++ after) ≡ Ok (kind.Text text, length (39 ∷ (flat_map doubled text ++ 39 ∷ [])))
unfolding next_at next_of text_at
spelled_text text after place ends =
    let n : 1 + (1 + length (flat_map doubled text)) ≡ suc (length (flat_map doubled text ++ 39 ∷ [])) = omega (arith, length-append (flat_map doubled text) (39 ∷ [])) in
    rw (quote_char, append_assoc (flat_map doubled text) (39 ∷ []) after, body_again text after ends) (rw n refl)

spelled_comment : (text : List ℕ) (place : Place) → next_at place ((0x235D ∷ text) ++ []) ≡ Ok (kind.Comment text, length (0x235D ∷ text))
unfolding next_at next_of
spelled_comment text place =
    let n : 1 + length text ≡ suc (length text) = omega arith in
    rw (lamp_class, append-nil text) (rw n refl)

-- a system name is letters, and is found
name_letters : (s : SystemName) → (all_in_name (letters_of s) ≡ true) × (class_at (letters_of s) ≡ class.Letter) × (system_named (letters_of s) ≡ Some s)
unfolding class_of system_named
name_letters Origin = (refl, refl, refl)
name_letters LineCounter = (refl, refl, refl)
name_letters NameClass = (refl, refl, refl)
name_letters Stop = (refl, refl, refl)
name_letters Trace = (refl, refl, refl)

first_class : (s : SystemName) (after : List ℕ) → class_at (letters_of s ++ after) ≡ class_at (letters_of s)
first_class Origin after = refl
first_class LineCounter after = refl
first_class NameClass after = refl
first_class Stop after = refl
first_class Trace after = refl

spelled_system : (s : SystemName) (after : List ℕ) (place : Place) → is_in_name (class_at after) ≡ false → next_at place ((0x2395 ∷ letters_of s) ++ after) ≡ Ok (kind.System s, length (0x2395 ∷ letters_of s))
unfolding next_at next_of symbol_at quad_at
spelled_system s after place ends =
    let n = name_letters s in
    let run : run_len run.Name (letters_of s ++ after) ≡ length (letters_of s) = run_exact (λ c. is_in_name (class_of c)) (letters_of s) after n.0 ends in
    let len : 1 + length (letters_of s) ≡ suc (length (letters_of s)) = omega arith in
    rw (glyph_class Quad, first_class s after, n.1, run, take_at (letters_of s) after (length (letters_of s)) refl, n.2) (rw len refl)

quad_alone : (after : List ℕ) → is_letter (class_at after) ≡ false → quad_at after ≡ Ok (kind.Symbol Quad, 1)
unfolding quad_at
quad_alone after h = rw h refl

quad_ends : (quad letter : Bool) → quad ≡ true → (quad && letter) ≡ false → letter ≡ false
quad_ends true letter q h = h
quad_ends false letter q h = absurd cc

no_stray : (colon named : Bool) → (not colon || named) ≡ true → (colon && not named) ≡ false
no_stray true true h = refl
no_stray true false h = absurd cc
no_stray false named h = refl

symbol_again : (s : Symbol) (after : List ℕ) (place : Place) (quad : Bool) → is_quad s ≡ quad → (is_quad s && is_letter (class_at after)) ≡ false → (not (is_colon s) || is_named place) ≡ true → symbol_at s place after ≡ Ok (kind.Symbol s, 1)
unfolding symbol_at
symbol_again s after place true q ends stands = rw (quad_is s q) (quad_alone after (quad_ends _ _ q ends))
symbol_again s after place false q ends stands = rw (q, no_stray _ _ stands) refl

spelled_symbol : (s : Symbol) (after : List ℕ) (place : Place) → Ends (kind.Symbol s) after → may_stand place (kind.Symbol s) ≡ true → next_at place ((glyph_of s ∷ []) ++ after) ≡ Ok (kind.Symbol s, 1)
unfolding next_at next_of
spelled_symbol s after place ends stands = rw (glyph_class s) (symbol_again s after place (is_quad s) refl ends stands)

-- a token at the start is read
pub spelled_read : (k : Kind) (word after : List ℕ) (place : Place) → IsSpelled k word → Ends k after → may_stand place k ≡ true → next_at place (word ++ after) ≡ Ok (k, length word)
spelled_read (kind.Constant []) word after place h ends stands = absurd h
spelled_read (kind.Constant (n ∷ [])) word after place h ends stands = spelled_number n word after place h ends
spelled_read (kind.Constant (n ∷ m ∷ ns)) word after place h ends stands = absurd h
spelled_read (kind.Name name) word after place h ends stands = subst (λ (x : List ℕ). next_at place (word ++ after) ≡ Ok (kind.Name x, length word)) h.0 (spelled_name word after place (rw h.0 h.1) ends)
spelled_read (kind.Text text) word after place h ends stands = rw h (spelled_text text after place ends)
spelled_read (kind.Comment text) word after place h ends stands = rw (h, ends) (spelled_comment text place)
spelled_read (kind.System s) word after place h ends stands = rw h (spelled_system s after place ends)
spelled_read (kind.Symbol s) word after place h ends stands = rw h (spelled_symbol s after place ends stands)
