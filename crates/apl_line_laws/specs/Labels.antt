-- Labels.
use Rattle.std.specs.Prelude.{◌≡◌, ◌<◌, ◌↔◌, ℕ, List, ◌∷◌, Some, Ok, AllPairs, Contains}
use Rattle.apl_symbols.specs.declared.symbol.Symbol.TheVariants.{Colon}
use Rattle.apl_tokens.specs.declared.token.Kind.TheVariants.{Name, Symbol}
use Rattle.apl_tokens.specs.declared.token.Token.{Token}
use Rattle.apl_tokens.specs.Tokens.{tokens_of}
use Rattle.apl_defn.specs.Definitions.{Text, Definition, line_at}
use Rattle.apl_defn.specs.Defining.{IsDefined, label_in}

-- the tokens begin with this name and a colon
pub record BeginWith (name : Text) (tokens : List Token) : Type 0 where
  pub first : Token
  pub second : Token
  pub rest : List Token
  pub tokens_are : tokens ≡ first ∷ second ∷ rest
  pub named : first.kind ≡ Name name
  pub colon : second.kind ≡ Symbol Colon

-- the line with this text has that label
pub record HasLabel (text name : Text) : Type 0 where
  pub tokens : List Token
  pub read : tokens_of text ≡ Ok tokens
  pub begin : BeginWith name tokens

-- the line of that number, from 1, has the label
pub record LineHasLabel (lines : List Text) (name : Text) (number : ℕ) : Type 0 where
  pub text : Text
  pub line : line_at lines number ≡ Some text
  pub has : HasLabel text name

-- These are the labels of lines, each with the number of its line, in the order of the lines.
pub record AreLabels (lines : List Text) (labels : List (Text × ℕ)) : Type 0 where
  pub exact : (name : Text) (number : ℕ) → Contains labels (name, number) ↔ LineHasLabel lines name number
  pub order : AllPairs (λ a b. a.1 < b.1) labels

-- ---- what is promised

-- tokens have a label exactly where they begin with it and a colon
abbrev pub TokensHaveLabels : Type 0
TokensHaveLabels = (tokens : List Token) (name : Text) → (label_in tokens ≡ Some name) ↔ BeginWith name tokens

-- the labels of a function are those of its lines
abbrev pub DefinitionsHaveLabels : Type 0
DefinitionsHaveLabels = (d : Definition) → IsDefined d → AreLabels d.lines d.labels

-- there is one list of them
abbrev pub HaveOneLabels : Type 0
HaveOneLabels = (lines : List Text) (some others : List (Text × ℕ)) → AreLabels lines some → AreLabels lines others → some ≡ others
