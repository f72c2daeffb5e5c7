-- Names, as instructions and as tokens have them.
use Rattle.std.proofs.Common.{◌≡◌, ℕ, Bool, true, false, ◌&&◌, ◌||◌, ◌==◌, cond, List, [], ◌∷◌, refl, sym, ap, ◌∙◌, subst, arith, true≢false}
use Rattle.std.specs.Prelude.{slice_index}
use Rattle.std.specs.Char.{is_ascii_digit}
use Rattle.std.specs.Cmp.{first_so, second_so}
use Rattle.std.specs.List.{list_all}
use Rattle.std.proofs.lemmas.Bool.{eqb-true}
use Rattle.std.proofs.lemmas.Bool.Decides.{nat_tests}
use Rattle.apl_symbols.specs.Glyphs.{symbol_of}
use Rattle.apl_symbols.specs.declared.symbol.Symbol.TheVariants.{Quad}
use Rattle.apl_tokens.specs.declared.class.Class.{Class}
use Rattle.apl_tokens.specs.declared.class.Class.TheVariants as class
use Rattle.apl_tokens.specs.Characters.{class_of, symbol_class, is_in_name as goes_on_with}
use Rattle.apl_tokens.specs.Spelling.{IsName, all_in_name, class_at}
use Rattle.apl_code.specs.Names.{is_letter, is_in_name}
use Rattle.apl_code.specs.Names as code
use Rattle.apl_defn.specs.Definitions.{Text}
use Rattle.apl_defn.proofs.Heads.{quad_class}
use Rattle.apl_machine_state.specs.Environment.{origin_name}

no-both : (b : Bool) → b ≡ true → b ≡ false → ⊥
no-both b t f = true≢false (sym t ∙ f)

other : (b : Bool) (x y : Class) → b ≡ false → cond b x y ≡ y
other b x y e = ap (λ c. cond c x y) e

this : (b : Bool) (x y : Class) → b ≡ true → cond b x y ≡ x
this b x y e = ap (λ c. cond c x y) e

-- what is no letter, and what is no digit
abbrev later : ℕ → Class
later c = cond (c == 0x235D) class.Lamp (symbol_class (symbol_of c))

abbrev beyond : ℕ → Class
beyond c = cond (c == 0xAF) class.Minus (cond (c == 39) class.Quote (cond (is_letter c) class.Letter (later c)))

-- a letter is no digit
letter-digit : (c : ℕ) → is_letter c ≡ true → is_ascii_digit c ≡ false
letter-digit c h = grind (arith, nat_tests)

letter-is : (c n : ℕ) → is_letter c ≡ true → is_letter n ≡ false → (c == n) ≡ false
letter-is c n h k = by (c == n) refl
  where
    by : (b : Bool) → (c == n) ≡ b → b ≡ false
    by true e = absurd (no-both (is_letter n) (subst (λ m. is_letter m ≡ true) (eqb-true c n e) h) k)
    by false e = refl

letter-class : (c : ℕ) → is_letter c ≡ true → class_of c ≡ class.Letter
unfolding class_of
letter-class c h =
    other (c == 32) class.Blank _ (letter-is c 32 h refl)
    ∙ other (is_ascii_digit c) class.Digit _ (letter-digit c h)
    ∙ other (c == 0xAF) class.Minus _ (letter-is c 0xAF h refl)
    ∙ other (c == 39) class.Quote _ (letter-is c 39 h refl)
    ∙ this (is_letter c) class.Letter (later c) h

digit-blank : (c : ℕ) → is_ascii_digit c ≡ true → (c == 32) ≡ false
digit-blank c h = by (c == 32) refl
  where
    by : (b : Bool) → (c == 32) ≡ b → b ≡ false
    by true e = absurd (true≢false (sym (subst (λ m. is_ascii_digit m ≡ true) (eqb-true c 32 e) h)))
    by false e = refl

digit-class : (c : ℕ) → is_ascii_digit c ≡ true → class_of c ≡ class.Digit
unfolding class_of
digit-class c h = other (c == 32) class.Blank _ (digit-blank c h) ∙ this (is_ascii_digit c) class.Digit (beyond c) h

in-name : (c : ℕ) (l d : Bool) → is_letter c ≡ l → is_ascii_digit c ≡ d → (l || d) ≡ true → goes_on_with (class_of c) ≡ true
in-name c true d e f h = ap goes_on_with (letter-class c e)
in-name c false true e f h = ap goes_on_with (digit-class c f)
in-name c false false e f h = absurd (true≢false (sym h))

all-in : (cs : List ℕ) → list_all is_in_name cs ≡ true → all_in_name cs ≡ true
all-in [] h = refl
all-in (c ∷ cs) h =
    let here = in-name c (is_letter c) (is_ascii_digit c) refl refl (first_so (is_in_name c) (list_all is_in_name cs) h) in
    let later = all-in cs (second_so (is_in_name c) (list_all is_in_name cs) h) in
    λ i. here i && later i

-- a name of an instruction is one of tokens
pub name-spelled : (name : Text) → code.IsName name → IsName name
name-spelled name h = record { letter = letter-class (slice_index name 0) h.letter; goes_on = all-in name h.goes_on; short = h.short }

-- ⎕IO is no name
pub no-origin : (name : Text) → IsName name → name ≡ origin_name → ⊥
no-origin name named e =
    let letter : class_of 0x2395 ≡ class.Letter = subst (λ (w : Text). class_at w ≡ class.Letter) e named.letter in
    let clash : class.Symbol Quad ≡ class.Letter = sym quad_class ∙ letter in
    cc
