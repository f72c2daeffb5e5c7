-- The one answer for a text: its tokens, or its fault.
use Rattle.std.specs.Prelude.{◌≡◌, ℕ, zero, suc, ◌+◌, ◌-◌, ◌≤◌, List, [], ◌∷◌, length, drop, Option, Some, None, Result, Ok, Err, ℤ, FitsSigned, nat_lt, if◌then◌else◌}
use Rattle.std.specs.Int.{w64}
use Rattle.std.specs.declared.vec.Vec.{Vec}
use Rattle.std.specs.declared.alloc.Global.{Global}
use Rattle.apl_tokens.specs.declared.token.Kind.{Kind}
use Rattle.apl_tokens.specs.declared.token.Kind.TheVariants.{Constant, Text}
use Rattle.apl_tokens.specs.declared.token.Token.{Token}
use Rattle.apl_tokens.specs.declared.place.Place.{Place}
use Rattle.apl_tokens.specs.declared.place.Place.TheVariants.{Start}
use Rattle.apl_tokens.specs.declared.reading.Halt.TheVariants as halt
use Rattle.apl_tokens.specs.declared.reading.Run.TheVariants as run
use Rattle.apl_tokens.specs.declared.line.TokenError.{TokenError}
use Rattle.apl_tokens.specs.declared.line.TokenError.TheVariants.{Quote, Unbalanced, Stray, Limit, TooLong, Memory}
use Rattle.apl_tokens.specs.Spelling.{next_place}
use Rattle.apl_tokens.specs.Reading.{Reading, run_len, next_at}
use Rattle.apl_tokens.specs.Lines.{error_at, Ascend}
use Rattle.apl_tokens.specs.Brackets.{unmatched}
use Rattle.apl_tokens.specs.Joined.{joined}

-- a token by its fields
abbrev pub token : Kind → ℕ → Token
token kind at = record { kind = kind; at = at }

-- a text's tokens, or its fault
abbrev pub Answer : Type 0
Answer = Result (List Token) TokenError

-- what stands after the leading blanks
abbrev pub after_blanks : List ℕ → List ℕ
after_blanks text = drop (run_len run.Blanks text) text

-- a token before those that follow it
abbrev pub with_token : Token → Answer → Answer
with_token t (Ok ts) = Ok (t ∷ ts)
with_token t (Err e) = Err e

-- a word gives its token and then what is later, or its fault
abbrev pub from_reading : ℕ → Place → List ℕ → Reading → (Place → List ℕ → Answer) → Answer
from_reading column place word (Ok piece) later = with_token (token piece.0 column) (later (next_place place piece.0) (drop piece.1 word))
from_reading column place word (Err fault) later = Err (error_at (halt.Broken fault.0 fault.1) column)

-- the word that stands after blanks, if one is there; end is the column after the line's last
abbrev pub from_word : ℕ → Place → List ℕ → (Place → List ℕ → Answer) → Answer
from_word end place [] later = Ok []
from_word end place (c ∷ word) later = from_reading (end - length (c ∷ word)) place (c ∷ word) (next_at place (c ∷ word)) later

-- the tokens of a text of fewer than n characters, each number by itself, up to the first fault
unfoldable pub pieces_of : ℕ → ℕ → Place → List ℕ → Answer
pieces_of zero end place text = Ok []
pieces_of (suc n) end place text = from_word end place (after_blanks text) (λ p rest. pieces_of n end p rest)

-- pieces are joined, unless a bracket at that column has no partner
abbrev pub if_balanced : List Token → Option ℕ → Answer
if_balanced pieces None = Ok (joined pieces)
if_balanced pieces (Some column) = Err (Unbalanced column)

-- the same of the pieces of a text
abbrev pub balanced : Answer → Answer
balanced (Ok pieces) = if_balanced pieces (unmatched [] pieces)
balanced (Err e) = Err e

-- the tokens of a text, or its fault: it is too long, else a piece of it breaks, else a bracket has no partner
unfoldable pub tokens_of : List ℕ → Answer
tokens_of text = if nat_lt 500 (length text) then Err (TooLong 501) else balanced (pieces_of (length text + 1) (length text + 1) Start text)

-- what a function returned is the answer, unless memory ran out
abbrev pub Reads : Result (Vec Token Global) TokenError → Answer → Type 0
Reads (Ok v) answer = answer ≡ Ok v.items
Reads (Err Memory) answer = Unit {0}
Reads (Err e) answer = answer ≡ Err e

-- the numbers fit 64 bits with a sign
abbrev pub AllFit : List ℤ → Type 0
AllFit [] = Unit {0}
AllFit (n ∷ ns) = FitsSigned w64 n × AllFit ns

-- a constant has one number at least, no more than the limit, and each fits
abbrev pub KindFits : ℕ → Kind → Type 0
KindFits limit (Constant ns) = (1 ≤ length ns) × (length ns ≤ limit) × AllFit ns
KindFits limit _ = Unit {0}

-- each constant of the tokens does
abbrev pub AllKindsFit : ℕ → List Token → Type 0
AllKindsFit limit [] = Unit {0}
AllKindsFit limit (t ∷ ts) = KindFits limit t.kind × AllKindsFit limit ts

-- a text has no more characters than the limit
abbrev pub IsShort : ℕ → Kind → Type 0
IsShort limit (Text characters) = length characters ≤ limit
IsShort limit _ = Unit {0}

abbrev pub AllShort : ℕ → List Token → Type 0
AllShort limit [] = Unit {0}
AllShort limit (t ∷ ts) = IsShort limit t.kind × AllShort limit ts

-- what holds of the tokens of a text
pub record AreTokens (tokens : List Token) : Type 0 where
  pub few : length tokens ≤ 500
  pub columns : Ascend 0 tokens
  pub constants : AllKindsFit 500 tokens
  pub texts : AllShort 500 tokens

-- the fault's column is one of the line, or the one after its longest
abbrev pub IsPlaced : TokenError → Type 0
IsPlaced (Quote column) = (1 ≤ column) × (column ≤ 501)
IsPlaced (Unbalanced column) = (1 ≤ column) × (column ≤ 501)
IsPlaced (Stray column) = (1 ≤ column) × (column ≤ 501)
IsPlaced (Limit column) = (1 ≤ column) × (column ≤ 501)
IsPlaced (TooLong column) = (1 ≤ column) × (column ≤ 501)
IsPlaced Memory = Unit {0}
