-- What the class of a character says of it.
use Rattle.std.proofs.Common.{◌≡◌, ℕ, Bool, true, false, not, ◌&&◌, ◌||◌, ◌==◌, cond, List, [], ◌∷◌, Option, Some, None, refl, ap, ◌∙◌, subst}
use Rattle.std.specs.List.{find, list_all}
use Rattle.std.specs.Char.{is_ascii_digit, is_ascii_alphabetic}
use Rattle.std.proofs.lemmas.Bool.{eqb-true, eq-eqb}
use Rattle.apl_symbols.specs.declared.symbol.Symbol.{Symbol}
use Rattle.apl_symbols.specs.Glyphs.{glyph_of, symbol_of, symbols}
use Rattle.apl_symbols.proofs.Glyphs.{glyph_of_symbol, symbol_of_glyph}
use Rattle.apl_tokens.specs.declared.class.Class.{Class}
use Rattle.apl_tokens.specs.declared.class.Class.TheVariants as class
use Rattle.apl_tokens.specs.Characters.{class_of, symbol_class, is_blank, is_digit, is_quote}

pub and_left : (a b : Bool) → (a && b) ≡ true → a ≡ true
and_left true b h = refl
and_left false b h = absurd cc

pub and_right : (a b : Bool) → (a && b) ≡ true → b ≡ true
and_right true b h = h
and_right false b h = absurd cc

-- the test of each class
abbrev passes : Class → ℕ → Bool
passes class.Blank c = c == 32
passes class.Digit c = is_ascii_digit c
passes class.Minus c = c == 0xAF
passes class.Quote c = c == 39
passes class.Letter c = is_ascii_alphabetic c || c == 0x2206 || c == 0x2359 || c == 95
passes class.Lamp c = c == 0x235D
passes (class.Symbol symbol) c = glyph_of symbol == c
passes class.Other c = true

either : (b : Bool) (x y : Class) (c : ℕ) → (b ≡ true → passes x c ≡ true) → passes y c ≡ true → passes (cond b x y) c ≡ true
either true x y c first others = first refl
either false x y c first others = others

symbol_passes : (c : ℕ) (o : Option Symbol) → symbol_of c ≡ o → passes (symbol_class o) c ≡ true
symbol_passes c None e = refl
symbol_passes c (Some s) e = rw (glyph_of_symbol c s e) (eq-eqb c c refl)

-- a character passes its class's test
class_passes : (c : ℕ) → passes (class_of c) c ≡ true
unfolding class_of
class_passes c =
    either (c == 32) class.Blank _ c (λ h. h) (
    either (is_ascii_digit c) class.Digit _ c (λ h. h) (
    either (c == 0xAF) class.Minus _ c (λ h. h) (
    either (c == 39) class.Quote _ c (λ h. h) (
    either (is_ascii_alphabetic c || c == 0x2206 || c == 0x2359 || c == 95) class.Letter _ c (λ h. h) (
    either (c == 0x235D) class.Lamp _ c (λ h. h) (
    symbol_passes c (symbol_of c) refl))))))

of_class : (c : ℕ) (k : Class) → class_of c ≡ k → passes k c ≡ true
of_class c k e = subst (λ (x : Class). passes x c ≡ true) e (class_passes c)

pub digit_is : (c : ℕ) → class_of c ≡ class.Digit → is_ascii_digit c ≡ true
digit_is c e = of_class c class.Digit e

pub minus_is : (c : ℕ) → class_of c ≡ class.Minus → c ≡ 0xAF
minus_is c e = eqb-true c 0xAF (of_class c class.Minus e)

pub quote_is : (c : ℕ) → class_of c ≡ class.Quote → c ≡ 39
quote_is c e = eqb-true c 39 (of_class c class.Quote e)

pub lamp_is : (c : ℕ) → class_of c ≡ class.Lamp → c ≡ 0x235D
lamp_is c e = eqb-true c 0x235D (of_class c class.Lamp e)

pub symbol_is : (c : ℕ) (s : Symbol) → class_of c ≡ class.Symbol s → glyph_of s ≡ c
symbol_is c s e = eqb-true (glyph_of s) c (of_class c (class.Symbol s) e)

pub digit_class : (k : Class) → is_digit k ≡ true → k ≡ class.Digit
digit_class class.Digit h = refl
digit_class _ h = absurd cc

pub quote_class : (k : Class) → is_quote k ≡ true → k ≡ class.Quote
quote_class class.Quote h = refl
quote_class _ h = absurd cc

-- at the end of a line
pub no_class : class_of 0 ≡ class.Other
unfolding class_of symbol_of
no_class = refl

pub minus_class : class_of 0xAF ≡ class.Minus
unfolding class_of
minus_class = refl

pub quote_char : class_of 39 ≡ class.Quote
unfolding class_of
quote_char = refl

pub lamp_class : class_of 0x235D ≡ class.Lamp
unfolding class_of
lamp_class = refl

-- the characters of symbols have no class before theirs
abbrev is_earlier : ℕ → Bool
is_earlier c = c == 32 || (is_ascii_digit c || (c == 0xAF || (c == 39 || ((is_ascii_alphabetic c || c == 0x2206 || c == 0x2359 || c == 95) || c == 0x235D))))

skip : (a b : Bool) (x y z : Class) → (a || b) ≡ false → (b ≡ false → y ≡ z) → cond a x y ≡ z
skip true b x y z h more = absurd cc
skip false b x y z h more = more h

later_class : (c : ℕ) → is_earlier c ≡ false → class_of c ≡ symbol_class (symbol_of c)
unfolding class_of
later_class c h =
    let z : Class = symbol_class (symbol_of c) in
    skip (c == 32) _ class.Blank _ z h (λ i.
    skip (is_ascii_digit c) _ class.Digit _ z i (λ j.
    skip (c == 0xAF) _ class.Minus _ z j (λ k.
    skip (c == 39) _ class.Quote _ z k (λ l.
    skip (is_ascii_alphabetic c || c == 0x2206 || c == 0x2359 || c == 95) (c == 0x235D) class.Letter _ z l (λ m. rw m refl)))))

found_step : (p : ℕ → Bool) (b : Bool) (first s : Symbol) (rest : Option Symbol) → p (glyph_of first) ≡ true → (rest ≡ Some s → p (glyph_of s) ≡ true) → cond b (Some first) rest ≡ Some s → p (glyph_of s) ≡ true
found_step p true first s rest here more h = let same : first ≡ s = cc in subst (λ (x : Symbol). p (glyph_of x) ≡ true) same here
found_step p false first s rest here more h = more h

-- what each symbol's character passes
found_passes : (p : ℕ → Bool) (table : List Symbol) (c : ℕ) (s : Symbol) → list_all (λ x. p (glyph_of x)) table ≡ true → find (λ x. glyph_of x == c) table ≡ Some s → p (glyph_of s) ≡ true
found_passes p [] c s all h = absurd cc
found_passes p (first ∷ table) c s all h = found_step p (glyph_of first == c) first s _ (and_left _ _ all) (found_passes p table c s (and_right _ _ all)) h

not_earlier : (s : Symbol) → not (is_earlier (glyph_of s)) ≡ true
unfolding symbol_of
not_earlier s = found_passes (λ c. not (is_earlier c)) symbols (glyph_of s) s refl (symbol_of_glyph s)

not_true : (b : Bool) → not b ≡ true → b ≡ false
not_true true h = absurd cc
not_true false h = refl

pub glyph_class : (s : Symbol) → class_of (glyph_of s) ≡ class.Symbol s
glyph_class s = later_class (glyph_of s) (not_true _ (not_earlier s)) ∙ ap symbol_class (symbol_of_glyph s)

-- the blank alone is blank
pub is_blank_class : (c : ℕ) → c ≡ 32 → is_blank (class_of c) ≡ true
unfolding class_of
is_blank_class c e = rw e refl

blank_case : (c : ℕ) (k : Class) → class_of c ≡ k → (c ≡ 32 → ⊥) → is_blank k ≡ false
blank_case c class.Blank e other = absurd (other (eqb-true c 32 (of_class c class.Blank e)))
blank_case c class.Digit e other = refl
blank_case c class.Minus e other = refl
blank_case c class.Quote e other = refl
blank_case c class.Letter e other = refl
blank_case c class.Lamp e other = refl
blank_case c (class.Symbol symbol) e other = refl
blank_case c class.Other e other = refl

pub not_blank : (c : ℕ) → (c ≡ 32 → ⊥) → is_blank (class_of c) ≡ false
not_blank c other = blank_case c (class_of c) refl other
