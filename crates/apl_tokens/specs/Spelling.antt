-- What spells a token of each kind.
use Rattle.std.specs.Prelude.{◌≡◌, ℕ, ◌+◌, ◌^◌, ◌<◌, ◌≤◌, Bool, true, false, not, ◌&&◌, ◌||◌, List, [], ◌∷◌, ◌++◌, length, ℤ, pos, neg_ℤ, slice_index, nat_le, nat_lt, if◌then◌else◌}
use Rattle.std.specs.List.{list_all, flat_map}
use Rattle.std.specs.Str.Parse.{digits_value}
use Rattle.apl_tokens.specs.declared.class.Class.{Class}
use Rattle.apl_tokens.specs.declared.class.Class.TheVariants as class
use Rattle.apl_tokens.specs.declared.token.Kind.{Kind}
use Rattle.apl_tokens.specs.declared.token.Kind.TheVariants as kind
use Rattle.apl_symbols.specs.declared.symbol.Symbol.{Symbol}
use Rattle.apl_symbols.specs.declared.symbol.Symbol.TheVariants.{Quad, Colon}
use Rattle.apl_symbols.specs.Glyphs.{glyph_of}
use Rattle.apl_symbols.specs.SystemNames.{letters_of}
use Rattle.apl_tokens.specs.declared.token.Token.{Token}
use Rattle.apl_tokens.specs.declared.place.Place.{Place}
use Rattle.apl_tokens.specs.declared.place.Place.TheVariants.{Start, Named, Inside}
use Rattle.apl_tokens.specs.Characters.{class_of, is_blank, is_digit, is_letter, is_in_name, ends_number, is_quote}

-- the class of the first character; Other at the end
abbrev pub class_at : List ℕ → Class
class_at rest = class_of (slice_index rest 0)

-- tests of each character
abbrev pub all_blank : List ℕ → Bool
all_blank = list_all (λ c. is_blank (class_of c))

abbrev pub all_digits : List ℕ → Bool
all_digits = list_all (λ c. is_digit (class_of c))

abbrev pub all_in_name : List ℕ → Bool
all_in_name = list_all (λ c. is_in_name (class_of c))

-- digits, with or without a high minus before them
abbrev pub signed : Bool → List ℕ → List ℕ
signed true digits = 0xAF ∷ digits
signed false digits = digits

-- a magnitude with its sign
abbrev pub signed_value : Bool → ℕ → ℤ
signed_value true m = neg_ℤ (pos m)
signed_value false m = pos m

-- the number that digits write
abbrev pub number_of : Bool → List ℕ → ℤ
number_of negative digits = signed_value negative (digits_value 10 digits)

-- a magnitude within the numbers' range
abbrev pub in_range : Bool → ℕ → Bool
in_range true m = nat_le m (2 ^ 63)
in_range false m = nat_lt m (2 ^ 63)

-- the word writes the number
pub record IsNumber (n : ℤ) (word : List ℕ) : Type 0 where
  pub negative : Bool
  pub digits : List ℕ
  pub word_is : word ≡ signed negative digits
  pub some : 0 < length digits
  pub digits_are : all_digits digits ≡ true
  pub value : n ≡ number_of negative digits
  pub fits : in_range negative (digits_value 10 digits) ≡ true

-- the word is a name
pub record IsName (word : List ℕ) : Type 0 where
  pub letter : class_at word ≡ class.Letter
  pub goes_on : all_in_name word ≡ true
  pub short : length word ≤ 32

-- a quote in a text is written twice
abbrev pub doubled : ℕ → List ℕ
doubled c = if is_quote (class_of c) then 39 ∷ 39 ∷ [] else c ∷ []

-- what a token is written with; each number stands by itself here
abbrev pub IsSpelled : Kind → List ℕ → Type 0
IsSpelled (kind.Constant []) word = ⊥
IsSpelled (kind.Constant (n ∷ [])) word = IsNumber n word
IsSpelled (kind.Constant (n ∷ m ∷ ns)) word = ⊥
IsSpelled (kind.Text text) word = word ≡ 39 ∷ (flat_map doubled text ++ 39 ∷ [])
IsSpelled (kind.Name name) word = (word ≡ name) × IsName name
IsSpelled (kind.Comment text) word = word ≡ 0x235D ∷ text
IsSpelled (kind.System name) word = word ≡ 0x2395 ∷ letters_of name
IsSpelled (kind.Symbol symbol) word = word ≡ glyph_of symbol ∷ []

abbrev pub is_quad : Symbol → Bool
is_quad Quad = true
is_quad _ = false

abbrev pub is_colon : Symbol → Bool
is_colon Colon = true
is_colon _ = false

-- what may stand directly after it
abbrev pub Ends : Kind → List ℕ → Type 0
Ends (kind.Constant ns) after = ends_number (class_at after) ≡ true
Ends (kind.Text text) after = is_quote (class_at after) ≡ false
Ends (kind.Name name) after = is_in_name (class_at after) ≡ false
Ends (kind.Comment text) after = after ≡ []
Ends (kind.System name) after = is_in_name (class_at after) ≡ false
Ends (kind.Symbol symbol) after = (is_quad symbol && is_letter (class_at after)) ≡ false

-- a colon stands second, after a name
abbrev pub is_named : Place → Bool
is_named Named = true
is_named _ = false

-- a token of that kind may stand at that place
abbrev pub may_stand : Place → Kind → Bool
may_stand place (kind.Symbol symbol) = not (is_colon symbol) || is_named place
may_stand place _ = true

-- the place after a token
abbrev pub next_place : Place → Kind → Place
next_place Start (kind.Name name) = Named
next_place _ _ = Inside

-- the text is blanks, the token's word, and what is after it; end is the column after the line's last
pub record Step (end : ℕ) (place : Place) (t : Token) (text after : List ℕ) : Type 0 where
  pub gap : List ℕ
  pub word : List ℕ
  pub parts : text ≡ gap ++ (word ++ after)
  pub blank : all_blank gap ≡ true
  pub at : t.at + length (word ++ after) ≡ end
  pub spelled : IsSpelled t.kind word
  pub ends : Ends t.kind after
  pub stands : may_stand place t.kind ≡ true

-- the tokens spell a prefix of the text, up to rest
abbrev pub Row : ℕ → Place → List Token → List ℕ → List ℕ → Type 0
Row end place [] text rest = text ≡ rest
Row end place (t ∷ ts) text rest = (after : List ℕ) × Step end place t text after × Row end (next_place place t.kind) ts after rest
