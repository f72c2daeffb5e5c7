-- The plain spelling of tokens: each in its shortest word at its column, blanks alone between.
use Rattle.std.specs.Prelude.{ℕ, suc, ◌+◌, ◌-◌, ◌==◌, ◌&&◌, Bool, true, false, List, [], ◌∷◌, ◌++◌, length, replicate, decimal, ℤ, pos, negsuc}
use Rattle.std.specs.List.{flat_map}
use Rattle.apl_symbols.specs.Glyphs.{glyph_of}
use Rattle.apl_symbols.specs.SystemNames.{letters_of}
use Rattle.apl_tokens.specs.declared.token.Kind.{Kind}
use Rattle.apl_tokens.specs.declared.token.Kind.TheVariants as kind
use Rattle.apl_tokens.specs.declared.token.Token.{Token}
use Rattle.apl_tokens.specs.Spelling.{signed, doubled}
use Rattle.apl_tokens.specs.Lines.{Spells}

-- the tokens spell some text
pub record AreSpelled (tokens : List Token) : Type 0 where
  pub text : List ℕ
  pub spells : Spells tokens text

-- a number's digits; a high minus before a negative one, and before 0 where a name would go on with it
abbrev pub number_word : Bool → ℤ → List ℕ
number_word after_name (pos m) = signed after_name (decimal m)
number_word after_name (negsuc m) = signed true (decimal (suc m))

-- numbers behind others
abbrev pub more_numbers : List ℤ → List ℕ
more_numbers ns = flat_map (λ n. 32 ∷ number_word false n) ns

-- the numbers of a constant, one blank between any two
abbrev pub numbers_word : Bool → List ℤ → List ℕ
numbers_word after_name [] = []
numbers_word after_name (n ∷ ns) = number_word after_name n ++ more_numbers ns

-- the plain word of a token, which stands directly behind a name or not
abbrev pub plain_word : Bool → Kind → List ℕ
plain_word after_name (kind.Constant ns) = numbers_word after_name ns
plain_word after_name (kind.Text text) = 39 ∷ (flat_map doubled text ++ 39 ∷ [])
plain_word after_name (kind.Name name) = name
plain_word after_name (kind.System name) = 0x2395 ∷ letters_of name
plain_word after_name (kind.Comment text) = 0x235D ∷ text
plain_word after_name (kind.Symbol symbol) = glyph_of symbol ∷ []

-- a name or a system name
abbrev pub is_any_name : Kind → Bool
is_any_name (kind.Name name) = true
is_any_name (kind.System name) = true
is_any_name _ = false

-- a word behind a gap, and what is later
abbrev pub behind_gap : ℕ → ℕ → List ℕ → (ℕ → List ℕ) → List ℕ
behind_gap written gap word later = replicate gap 32 ++ (word ++ later (written + gap + length word))

-- the tokens behind so many characters, whose last token is a name or not
unfoldable pub plain_behind : ℕ → Bool → List Token → List ℕ
plain_behind written named [] = []
plain_behind written named (t ∷ ts) =
    behind_gap written (t.at - 1 - written) (plain_word (named && (t.at - 1 - written == 0)) t.kind) (λ n. plain_behind n (is_any_name t.kind) ts)

-- the whole text
abbrev pub plain : List Token → List ℕ
plain tokens = plain_behind 0 false tokens
