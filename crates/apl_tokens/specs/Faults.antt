-- All faults of a text, which is read on past each, and the leftmost of them.
use Rattle.std.specs.Prelude.{◌≡◌, ℕ, zero, suc, ◌+◌, ◌-◌, ◌<◌, ◌⊎◌, max, List, [], ◌∷◌, ◌++◌, length, map, drop, Ok, Err, All, Contains, if◌then◌else◌}
use Rattle.apl_tokens.specs.declared.place.Place.{Place}
use Rattle.apl_tokens.specs.declared.place.Place.TheVariants.{Start, Inside}
use Rattle.apl_tokens.specs.declared.reading.Fault.{Fault}
use Rattle.apl_tokens.specs.declared.reading.Fault.TheVariants as fault
use Rattle.apl_tokens.specs.declared.reading.Run.TheVariants as run
use Rattle.apl_tokens.specs.declared.class.Class.{Class}
use Rattle.apl_tokens.specs.declared.class.Class.TheVariants as class
use Rattle.apl_tokens.specs.declared.line.TokenError.{TokenError}
use Rattle.apl_tokens.specs.declared.line.TokenError.TheVariants.{Quote, Unbalanced, Stray, Limit, TooLong, Memory}
use Rattle.apl_tokens.specs.Spelling.{class_at, next_place}
use Rattle.apl_tokens.specs.Characters.{ends_number}
use Rattle.apl_tokens.specs.Reading.{Reading, run_len, next_at}
use Rattle.apl_tokens.specs.Tokens.{after_blanks}

-- faults, each with the number of characters before it, or with its column
abbrev pub Faults : Type 0
Faults = List (Fault × ℕ)

-- what can't stand directly behind a number of n characters
abbrev pub stray_behind : List ℕ → ℕ → Faults
stray_behind word n = if ends_number (class_at (drop n word)) then [] else (fault.Stray, n) ∷ []

-- how many characters a number or a name over its limit takes, by the class of its first one
abbrev pub long_len : Class → List ℕ → ℕ
long_len class.Letter word = run_len run.Name word
long_len class.Minus word = 1 + run_len run.Digits (drop 1 word)
long_len _ word = run_len run.Digits word

-- behind a number over its limit there may be one fault more
abbrev pub long_faults : Class → List ℕ → ℕ → Faults
long_faults class.Letter word n = []
long_faults _ word n = stray_behind word n

-- the faults of a word that breaks
abbrev pub word_faults : Fault → ℕ → List ℕ → Faults
word_faults fault.Quote before word = (fault.Quote, before) ∷ []
word_faults fault.Stray before word = (fault.Stray, before) ∷ []
word_faults fault.Limit before word = (fault.Limit, before) ∷ long_faults (class_at word) word (long_len (class_at word) word)

-- after how many characters reading goes on: an open quote takes the rest, and what can't follow a number is read itself
abbrev pub past : Fault → ℕ → List ℕ → ℕ
past fault.Quote before word = length word
past fault.Stray before word = max 1 before
past fault.Limit before word = long_len (class_at word) word

-- the faults of a word that begins in that column
abbrev pub at_column : ℕ → Faults → Faults
at_column column faults = map (λ f. (f.0, column + f.1)) faults

-- those of a word, and of what is later; behind a fault no label can stand
abbrev pub faults_of_reading : ℕ → Place → List ℕ → Reading → (Place → List ℕ → Faults) → Faults
faults_of_reading column place word (Ok piece) later = later (next_place place piece.0) (drop piece.1 word)
faults_of_reading column place word (Err f) later = at_column column (word_faults f.0 f.1 word) ++ later Inside (drop (past f.0 f.1 word) word)

-- the same, of the word that stands after blanks; end is the column after the line's last
abbrev pub faults_of_word : ℕ → Place → List ℕ → (Place → List ℕ → Faults) → Faults
faults_of_word end place [] later = []
faults_of_word end place (c ∷ word) later = faults_of_reading (end - length (c ∷ word)) place (c ∷ word) (next_at place (c ∷ word)) later

-- the faults of a text of fewer than n characters
unfoldable pub faults_from : ℕ → ℕ → Place → List ℕ → Faults
faults_from zero end place text = []
faults_from (suc n) end place text = faults_of_word end place (after_blanks text) (λ p rest. faults_from n end p rest)

-- every fault of a text, with its column
abbrev pub faults_of : List ℕ → Faults
faults_of text = faults_from (length text + 1) (length text + 1) Start text

-- it stands before the other, or at the same column and is Stray, or is the other
abbrev pub ComesFirst : Fault × ℕ → Fault × ℕ → Type 0
ComesFirst f g = (f.1 < g.1) ⊎ ((f.1 ≡ g.1) × ((f.0 ≡ fault.Stray) ⊎ (f.0 ≡ g.0)))

-- it is the leftmost of the faults, of two at one column the Stray
pub record IsLeftmost (f : Fault × ℕ) (faults : Faults) : Type 0 where
  pub among : Contains faults f
  pub first : All (λ g. ComesFirst f g) faults

-- an error is the leftmost of a text's faults, or there are none; one that is too long isn't read
abbrev pub Leads : TokenError → List ℕ → Type 0
Leads (Quote column) text = IsLeftmost (fault.Quote, column) (faults_of text)
Leads (Stray column) text = IsLeftmost (fault.Stray, column) (faults_of text)
Leads (Limit column) text = IsLeftmost (fault.Limit, column) (faults_of text)
Leads (Unbalanced column) text = faults_of text ≡ []
Leads (TooLong column) text = Unit {0}
Leads Memory text = Unit {0}
