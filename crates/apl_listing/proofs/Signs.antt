-- The characters of words: each is in the set, and none is a blank or the sign of a place.
use Rattle.std.proofs.Common.{◌≡◌, ℕ, ◌<◌, ◌≤◌, ◌^◌, Bool, true, false, List, [], ◌∷◌, refl, sym, subst, arith, inl, inr}
use Rattle.std.specs.Prelude.{◌==◌, ◌&&◌, not, decimal}
use Rattle.std.specs.Char.{is_ascii_digit}
use Rattle.std.specs.Int.{is_in_range}
use Rattle.std.specs.List.{list_all}
use Rattle.std.specs.Str.Parse.{AllDigits}
use Rattle.std.proofs.lemmas.Bool.{le-leb, leb-true, ne_eqb, or_cases, eqb-true}
use Rattle.std.proofs.lemmas.Fmt.{decimal_is_IsNumeral}
use Rattle.std.proofs.lemmas.Str.Parse.{digit_from_value}
use Rattle.apl_charset.specs.Set.{is_member}
use Rattle.apl_charset.proofs.Members.{and_left, and_right}
use Rattle.apl_symbols.specs.declared.primitive.Primitive.{Primitive}
use Rattle.apl_symbols.specs.declared.primitive.Primitive.TheVariants as p
use Rattle.apl_symbols.specs.declared.system.SystemName.{SystemName}
use Rattle.apl_symbols.specs.declared.system.SystemName.TheVariants.{Origin, LineCounter, NameClass, Stop, Trace}
use Rattle.apl_symbols.specs.Glyphs.{primitive_glyph}
use Rattle.apl_symbols.specs.SystemNames.{letters_of}
use Rattle.apl_code.specs.Names.{is_letter, is_in_name}

-- a character of a word
abbrev pub is_sign : ℕ → Bool
is_sign c = is_member c && (not (c == 32) && not (c == 64))

abbrev pub AreSigns : List ℕ → Type 0
AreSigns w = list_all is_sign w ≡ true

-- the test of a primitive's glyph: a sign, and neither a letter nor the quad
abbrev is_glyph : ℕ → Bool
is_glyph c = is_sign c && (not (is_letter c) && not (c == 0x2395))

glyphs : (f : Primitive) → is_glyph (primitive_glyph f) ≡ true
unfolding is_member
glyphs p.Plus = refl
glyphs p.Minus = refl
glyphs p.Times = refl
glyphs p.Divide = refl
glyphs p.Star = refl
glyphs p.Upstile = refl
glyphs p.Downstile = refl
glyphs p.Stile = refl
glyphs p.Tilde = refl
glyphs p.Bang = refl
glyphs p.Less = refl
glyphs p.NotGreater = refl
glyphs p.Equal = refl
glyphs p.NotLess = refl
glyphs p.Greater = refl
glyphs p.NotEqual = refl
glyphs p.And = refl
glyphs p.Or = refl
glyphs p.Nand = refl
glyphs p.Nor = refl
glyphs p.Rho = refl
glyphs p.Iota = refl
glyphs p.Comma = refl
glyphs p.CircleStile = refl
glyphs p.CircleBar = refl
glyphs p.CircleSlope = refl
glyphs p.UpArrow = refl
glyphs p.DownArrow = refl
glyphs p.Slash = refl
glyphs p.SlashBar = refl
glyphs p.Slope = refl
glyphs p.SlopeBar = refl
glyphs p.Epsilon = refl
glyphs p.GradeUp = refl
glyphs p.GradeDown = refl
glyphs p.UpTack = refl
glyphs p.DownTack = refl
glyphs p.Format = refl
glyphs p.Execute = refl

not_true : (b : Bool) → not b ≡ true → b ≡ false
not_true true h = absurd cc
not_true false h = refl

pub glyph_sign : (f : Primitive) → is_sign (primitive_glyph f) ≡ true
glyph_sign f = and_left _ _ (glyphs f)

pub glyph_letter : (f : Primitive) → is_letter (primitive_glyph f) ≡ false
glyph_letter f = not_true _ (and_left _ _ (and_right _ _ (glyphs f)))

pub glyph_quad : (f : Primitive) → (primitive_glyph f == 0x2395) ≡ false
glyph_quad f = not_true _ (and_right _ _ (and_right _ _ (glyphs f)))

-- a sign is in the set, and it is no blank and no @
pub sign_member : (c : ℕ) → is_sign c ≡ true → is_member c ≡ true
sign_member c h = and_left _ _ h

pub sign_blank : (c : ℕ) → is_sign c ≡ true → (c == 32) ≡ false
sign_blank c h = not_true _ (and_left _ _ (and_right (is_member c) _ h))

pub sign_at : (c : ℕ) → is_sign c ≡ true → (c == 64) ≡ false
sign_at c h = not_true _ (and_right _ _ (and_right (is_member c) _ h))

-- ASCII above the blank and other than @
ascii_sign : (c : ℕ) → 32 < c → c ≤ 126 → (c ≡ 64 → ⊥) → is_sign c ≡ true
unfolding is_member
ascii_sign c low high at = let e : c ≡ 32 → ⊥ = λ q. omega arith in rw (le-leb 32 c (omega arith), le-leb c 126 high, ne_eqb c 32 e, ne_eqb c 64 at) refl

digit_sign : (c : ℕ) → (48 ≤ c) × (c ≤ 57) → is_sign c ≡ true
digit_sign c h = ascii_sign c (omega arith) (omega arith) (λ e. omega arith)

range_sign : (low high c : ℕ) → is_in_range low high c ≡ true → 64 < low → high ≤ 126 → is_sign c ≡ true
range_sign low high c h l k =
    let a : low ≤ c = leb-true low c (and_left _ _ h) in
    let b : c ≤ high = leb-true c high (and_right _ _ h) in
    ascii_sign c (omega arith) (omega arith) (λ e. omega arith)

one_sign : (s c : ℕ) → is_sign s ≡ true → (c == s) ≡ true → is_sign c ≡ true
one_sign s c h e = subst (λ (x : ℕ). is_sign x ≡ true) (sym (eqb-true c s e)) h

marks_sign : (is_sign 0x2206 ≡ true) × (is_sign 0x2359 ≡ true) × (is_sign 95 ≡ true) × (is_sign 0x2395 ≡ true)
unfolding is_member
marks_sign = (refl, refl, refl, refl)

letter_sign : (c : ℕ) → is_letter c ≡ true → is_sign c ≡ true
letter_sign c h =
    elim (or_cases _ (c == 95) h) [
      | inl a ↦ elim (or_cases _ (c == 0x2359) a) [
        | inl b ↦ elim (or_cases _ (c == 0x2206) b) [
          | inl d ↦ elim (or_cases (is_in_range 65 90 c) (is_in_range 97 122 c) d) [
            | inl upper ↦ range_sign 65 90 c upper (omega arith) (omega arith)
            | inr lower ↦ range_sign 97 122 c lower (omega arith) (omega arith)
          ]
          | inr d ↦ one_sign 0x2206 c marks_sign.0 d
        ]
        | inr b ↦ one_sign 0x2359 c marks_sign.1 b
      ]
      | inr a ↦ one_sign 95 c marks_sign.2 a
    ]

in_name_sign : (c : ℕ) → is_in_name c ≡ true → is_sign c ≡ true
in_name_sign c h =
    elim (or_cases (is_letter c) (is_ascii_digit c) h) [
      | inl letter ↦ letter_sign c letter
      | inr digit ↦ digit_sign c (leb-true 48 c (and_left _ _ digit), leb-true c 57 (and_right _ _ digit))
    ]

pub name_signs : (name : List ℕ) → list_all is_in_name name ≡ true → AreSigns name
name_signs [] h = refl
name_signs (c ∷ cs) h = rw (in_name_sign c (and_left _ _ h), name_signs cs (and_right (is_in_name c) _ h)) refl

digits_sign : (ds : List ℕ) → AllDigits 10 ds → AreSigns ds
digits_sign [] h = refl
digits_sign (c ∷ ds) h = rw (digit_sign c (digit_from_value c h.0), digits_sign ds h.1) refl

pub decimal_signs : (n : ℕ) → n < 2 ^ 64 → AreSigns (decimal n)
decimal_signs n lt = digits_sign (decimal n) (decimal_is_IsNumeral n lt).0.1

letters_sign : (s : SystemName) → AreSigns (letters_of s)
unfolding is_member
letters_sign Origin = refl
letters_sign LineCounter = refl
letters_sign NameClass = refl
letters_sign Stop = refl
letters_sign Trace = refl

pub system_signs : (s : SystemName) → AreSigns (0x2395 ∷ letters_of s)
system_signs s = rw (marks_sign.3, letters_sign s) refl
