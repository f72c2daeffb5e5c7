-- Which bracket has no partner.
use Rattle.std.specs.Prelude.{ℕ, Bool, true, false, List, [], ◌∷◌, Option, Some, None, if◌then◌else◌}
use Rattle.apl_symbols.specs.declared.symbol.Symbol.{Symbol}
use Rattle.apl_symbols.specs.declared.symbol.Symbol.TheVariants.{OpenParenthesis, CloseParenthesis, OpenBracket, CloseBracket}
use Rattle.apl_tokens.specs.declared.token.Kind.{Kind}
use Rattle.apl_tokens.specs.declared.token.Kind.TheVariants as kind
use Rattle.apl_tokens.specs.declared.token.Token.{Token}
use Rattle.apl_tokens.specs.declared.brackets.Bracket.{Bracket}
use Rattle.apl_tokens.specs.declared.brackets.Bracket.TheVariants.{Round, Square}
use Rattle.apl_tokens.specs.declared.brackets.Side.{Side}
use Rattle.apl_tokens.specs.declared.brackets.Side.TheVariants.{Opens, Closes, Neither}

abbrev pub same_bracket : Bracket → Bracket → Bool
same_bracket Round Round = true
same_bracket Square Square = true
same_bracket _ _ = false

-- which bracket a symbol opens or closes
abbrev pub side_of : Symbol → Side
side_of OpenParenthesis = Opens Round
side_of CloseParenthesis = Closes Round
side_of OpenBracket = Opens Square
side_of CloseBracket = Closes Square
side_of _ = Neither

-- the same of a token
abbrev pub kind_side : Kind → Side
kind_side (kind.Symbol symbol) = side_of symbol
kind_side _ = Neither

-- the brackets that are open, the innermost first, each with its column
abbrev pub Open : Type 0
Open = List (Bracket × ℕ)

-- the column of the innermost open bracket
abbrev pub innermost : Open → Option ℕ
innermost [] = None
innermost (o ∷ open_ones) = Some o.1

-- what a token does to the open brackets, and what comes of it
abbrev pub after_side : Side → ℕ → Open → (Open → Option ℕ) → Option ℕ
after_side Neither column open_ones next = next open_ones
after_side (Opens bracket) column open_ones next = next ((bracket, column) ∷ open_ones)
after_side (Closes bracket) column [] next = Some column
after_side (Closes bracket) column (o ∷ open_ones) next = if same_bracket bracket o.0 then next open_ones else Some column

-- the first closing bracket that does not match the innermost open one, else the innermost one left open
unfoldable pub unmatched : Open → List Token → Option ℕ
unmatched open_ones [] = innermost open_ones
unmatched open_ones (t ∷ ts) = after_side (kind_side t.kind) t.at open_ones (λ o. unmatched o ts)
