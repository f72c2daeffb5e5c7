-- What a header is.
use Rattle.std.specs.Prelude.{◌≡◌, ◌≢◌, List, [], ◌∷◌, ◌++◌, map, codes, IsSome, AllPairs, ◌⊎◌, if◌then◌else◌}
use Rattle.std.specs.List.{flat_map, AllByRecursion}
use Rattle.std.specs.Option.{option_to_list}
use Rattle.std.specs.Str.{bytes_eq}
use Rattle.apl_symbols.specs.declared.symbol.Symbol.TheVariants.{LeftArrow, Semicolon}
use Rattle.apl_symbols.specs.declared.system.SystemName.TheVariants.{Origin}
use Rattle.apl_tokens.specs.declared.token.Kind.{Kind}
use Rattle.apl_tokens.specs.declared.token.Kind.TheVariants.{Name, System, Symbol}
use Rattle.apl_tokens.specs.declared.token.Token.{Token}
use Rattle.apl_tokens.specs.Spelling.{IsName}
use Rattle.apl_tokens.specs.Lines.{Spells}
use Rattle.apl_defn.specs.Definitions.{Text, Header}

-- the kinds of tokens
abbrev pub kinds : List Token → List Kind
kinds ts = map (λ t. t.kind) ts

-- ⎕IO
abbrev pub origin : Text
origin = 0x2395 ∷ codes "IO"

-- the token of a local: ⎕IO, or a name
abbrev pub local_kind : Text → Kind
local_kind word = if bytes_eq word origin then System Origin else Name word

-- the kinds of the tokens that a header is written with: the result and ←, the left argument, the function, the right
-- argument, and ; with a local, each time
abbrev pub kinds_of : Header → List Kind
kinds_of h =
    flat_map (λ z. Name z ∷ Symbol LeftArrow ∷ []) (option_to_list h.result)
    ++ (map Name (option_to_list h.left)
    ++ (Name h.name ∷ (map Name (option_to_list h.right)
    ++ flat_map (λ word. Symbol Semicolon ∷ local_kind word ∷ []) h.locals)))

-- the names that are the result, the arguments and the function
abbrev pub user_names : Header → List Text
user_names h = option_to_list h.result ++ (option_to_list h.left ++ (h.name ∷ option_to_list h.right))

-- all names of a header
abbrev pub names_of : Header → List Text
names_of h = user_names h ++ h.locals

-- a local is a name or ⎕IO
abbrev pub IsLocal : Text → Type 0
IsLocal word = (word ≡ origin) ⊎ IsName word

-- the text is that header: its tokens are the header's, a left argument stands only with a right one, names are names
pub record Heads (text : Text) (h : Header) : Type 0 where
  pub tokens : List Token
  pub spelled : Spells tokens text
  pub written : kinds tokens ≡ kinds_of h
  pub arguments : IsSome h.left → IsSome h.right
  pub names : AllByRecursion IsName (user_names h)
  pub locals : AllByRecursion IsLocal h.locals

-- no text stands twice
abbrev pub EachOnce : List Text → Type 0
EachOnce = AllPairs (λ a b. a ≢ b)
