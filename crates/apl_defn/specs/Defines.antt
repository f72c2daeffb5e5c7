-- Which lines define a function, and why others define none.
use Rattle.std.specs.Prelude.{◌≡◌, ◌<◌, ◌≤◌, ℕ, suc, List, ◌∷◌, ◌++◌, length}
use Rattle.std.specs.List.{AllByRecursion}
use Rattle.apl_tokens.specs.declared.token.Token.{Token}
use Rattle.apl_tokens.specs.Lines.{Spells}
use Rattle.apl_defn.specs.declared.error.DefnError.{DefnError}
use Rattle.apl_defn.specs.declared.error.DefnError.TheVariants as error
use Rattle.apl_defn.specs.Definitions.{Text, Header, Definition}
use Rattle.apl_defn.specs.Headers.{Heads, EachOnce}
use Rattle.apl_defn.specs.Defining.{labels_from, all_names, made}

-- a text has no fault of tokens
abbrev pub HasTokens : Text → Type 0
HasTokens line = (tokens : List Token) × Spells tokens line

-- the first of the lines is that header, the rest stands behind it
pub record Headed (lines : List Text) (h : Header) (rest : List Text) : Type 0 where
  pub first : Text
  pub lines_are : lines ≡ first ∷ rest
  pub header : Heads first h

-- lines define a function: its header and then its lines as they stand, each of which has tokens, with just their labels;
-- no name stands twice
pub record Defines (lines : List Text) (d : Definition) : Type 0 where
  pub headed : Headed lines d.header d.lines
  pub few : length d.lines ≤ 999
  pub whole : AllByRecursion HasTokens d.lines
  pub labels : d.labels ≡ labels_from 1 d.lines
  pub once : EachOnce (all_names d)

-- the line of that number is the first without tokens
pub record FaultyAt (n : ℕ) (lines : List Text) : Type 0 where
  pub prefix : List Text
  pub line : Text
  pub after : List Text
  pub lines_are : lines ≡ prefix ++ line ∷ after
  pub number : suc (length prefix) ≡ n
  pub whole : AllByRecursion HasTokens prefix
  pub faulty : HasTokens line → ⊥

-- a header with too many lines behind it
pub record IsTooLong (lines : List Text) : Type 0 where
  pub h : Header
  pub rest : List Text
  pub headed : Headed lines h rest
  pub many : 999 < length rest

-- a header with a faulty line behind it
pub record IsFaulty (n : ℕ) (lines : List Text) : Type 0 where
  pub h : Header
  pub rest : List Text
  pub headed : Headed lines h rest
  pub few : length rest ≤ 999
  pub faulty : FaultyAt n rest

-- a header with lines behind it, and a name stands twice among its names and their labels
pub record IsTwice (lines : List Text) : Type 0 where
  pub h : Header
  pub rest : List Text
  pub headed : Headed lines h rest
  pub few : length rest ≤ 999
  pub whole : AllByRecursion HasTokens rest
  pub twice : EachOnce (all_names (made h rest)) → ⊥

-- why lines define no function
abbrev pub IsRefused : DefnError → List Text → Type 0
IsRefused error.Header lines = (h : Header) (rest : List Text) → Headed lines h rest → ⊥
IsRefused error.TooLong lines = IsTooLong lines
IsRefused (error.Line n) lines = IsFaulty n lines
IsRefused error.Twice lines = IsTwice lines
IsRefused error.Memory lines = ⊥
