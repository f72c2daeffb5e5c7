-- The tokens of a line, or its fault.
use Rattle.std.specs.Prelude.{◌≡◌, ℕ, ◌+◌, ◌<◌, ◌≤◌, true, false, List, [], ◌∷◌, ◌++◌, length, Some, None, Err, All, FitsSigned}
use Rattle.std.specs.Int.{w64}
use Rattle.apl_tokens.specs.declared.token.Kind.{Kind}
use Rattle.apl_tokens.specs.declared.token.Kind.TheVariants as kind
use Rattle.apl_tokens.specs.declared.token.Token.{Token}
use Rattle.apl_tokens.specs.declared.place.Place.{Place}
use Rattle.apl_tokens.specs.declared.place.Place.TheVariants.{Start}
use Rattle.apl_tokens.specs.declared.reading.Fault.{Fault}
use Rattle.apl_tokens.specs.declared.reading.Fault.TheVariants as fault
use Rattle.apl_tokens.specs.declared.line.TokenError.{TokenError}
use Rattle.apl_tokens.specs.declared.line.TokenError.TheVariants.{Quote, Unbalanced, Stray, Limit, TooLong, Memory}
use Rattle.apl_tokens.specs.declared.reading.Halt.{Halt}
use Rattle.apl_tokens.specs.declared.reading.Halt.TheVariants as halt
use Rattle.apl_tokens.specs.Characters.{is_blank}
use Rattle.apl_tokens.specs.Spelling.{class_at, all_blank, next_place, Row}
use Rattle.apl_tokens.specs.Reading.{next_at}
use Rattle.apl_tokens.specs.Brackets.{unmatched}
use Rattle.apl_tokens.specs.Joined.{joined}

-- the place of the next token, after these
abbrev pub place_after : Place → List Token → Place
place_after place [] = place
place_after place (t ∷ ts) = place_after (next_place place t.kind) ts

-- after blanks the text breaks, at that column
pub record BreaksAt (end : ℕ) (place : Place) (text : List ℕ) (fault : Fault) (column : ℕ) : Type 0 where
  pub gap : List ℕ
  pub rest : List ℕ
  pub parts : text ≡ gap ++ rest
  pub blank : all_blank gap ≡ true
  pub some : 0 < length rest
  pub starts : is_blank (class_at rest) ≡ false
  pub after : ℕ
  pub breaks : next_at place rest ≡ Err (fault, after)
  pub column_is : column + length rest ≡ end + after

-- what can't be read there is that error
abbrev pub IsBreak : ℕ → Place → List ℕ → TokenError → Type 0
IsBreak end place text (Quote column) = BreaksAt end place text fault.Quote column
IsBreak end place text (Stray column) = BreaksAt end place text fault.Stray column
IsBreak end place text (Limit column) = BreaksAt end place text fault.Limit column
IsBreak end place text (Unbalanced column) = ⊥
IsBreak end place text (TooLong column) = ⊥
IsBreak end place text Memory = Unit {0}

-- the pieces spell the text, each number by itself
pub record ArePieces (text : List ℕ) (pieces : List Token) : Type 0 where
  pub rest : List ℕ
  pub row : Row (length text + 1) Start pieces text rest
  pub blank : all_blank rest ≡ true

-- the tokens, runs of numbers joined, spell the text
pub record Joins (text : List ℕ) (tokens : List Token) : Type 0 where
  pub pieces : List Token
  pub spelled : ArePieces text pieces
  pub tokens_are : tokens ≡ joined pieces

-- pieces spell a prefix of the text, and what is left breaks
pub record Breaks (text : List ℕ) (e : TokenError) : Type 0 where
  pub pieces : List Token
  pub rest : List ℕ
  pub row : Row (length text + 1) Start pieces text rest
  pub breaks : IsBreak (length text + 1) (place_after Start pieces) rest e

-- a halt at what begins in that column, as an error
abbrev pub error_at : Halt → ℕ → TokenError
error_at halt.Memory column = Memory
error_at (halt.Broken fault.Quote after) column = Quote (column + after)
error_at (halt.Broken fault.Stray after) column = Stray (column + after)
error_at (halt.Broken fault.Limit after) column = Limit (column + after)

-- the column of the fault fits
abbrev pub IsSmall : Halt → ℕ → Type 0
IsSmall halt.Memory column = Unit {0}
IsSmall (halt.Broken fault after) column = (after ≤ 1000) × (column ≤ 1000)

-- the tokens spell the text
pub record Spells (tokens : List Token) (text : List ℕ) : Type 0 where
  pub short : length text ≤ 500
  pub pieces : List Token
  pub spelled : ArePieces text pieces
  pub balanced : unmatched [] pieces ≡ None
  pub tokens_are : tokens ≡ joined pieces

-- the tokens spell the text, but for the bracket at that column, which has no partner
pub record LeavesOpen (text : List ℕ) (column : ℕ) : Type 0 where
  pub short : length text ≤ 500
  pub pieces : List Token
  pub spelled : ArePieces text pieces
  pub unbalanced : unmatched [] pieces ≡ Some column

-- the one fault of a text that no tokens spell
abbrev pub IsFault : List ℕ → TokenError → Type 0
IsFault text (TooLong column) = (500 < length text) × (column ≡ 501)
IsFault text (Unbalanced column) = LeavesOpen text column
IsFault text Memory = Unit {0}
IsFault text (Quote column) = (length text ≤ 500) × Breaks text (Quote column)
IsFault text (Stray column) = (length text ≤ 500) × Breaks text (Stray column)
IsFault text (Limit column) = (length text ≤ 500) × Breaks text (Limit column)

-- the columns ascend, from above low to at most 500
abbrev pub Ascend : ℕ → List Token → Type 0
Ascend low [] = Unit {0}
Ascend low (t ∷ ts) = (low < t.at) × (t.at ≤ 500) × Ascend t.at ts

-- each number of a constant fits 64 bits
abbrev pub Fits : Kind → Type 0
Fits (kind.Constant ns) = All (λ n. FitsSigned w64 n) ns
Fits _ = Unit {0}

-- the number of an error
abbrev pub error_number : TokenError → ℕ
error_number (Quote _) = 1
error_number (Unbalanced _) = 2
error_number (Stray _) = 3
error_number (Limit _) = 4
error_number (TooLong _) = 5
error_number Memory = 6
