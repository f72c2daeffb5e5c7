-- The tokens of worked lines.
use Rattle.std.specs.Prelude.{ℕ, List, [], ◌∷◌, map, pos}
use Rattle.apl_symbols.specs.declared.primitive.Primitive.{Primitive}
use Rattle.apl_symbols.specs.declared.primitive.Primitive.TheVariants.{Plus, Times}
use Rattle.apl_symbols.specs.declared.symbol.Symbol.TheVariants as symbol
use Rattle.apl_tokens.specs.declared.token.Kind.TheVariants.{Constant, Symbol}
use Rattle.apl_tokens.specs.declared.token.Token.{Token}
use Rattle.apl_tokens.specs.Tokens.{token}

-- the constant of these numbers, at a column
abbrev pub constant_at : ℕ → List ℕ → Token
constant_at at numbers = token (Constant (map pos numbers)) at

-- a primitive function, at a column
abbrev pub function_at : ℕ → Primitive → Token
function_at at function = token (Symbol (symbol.Primitive function)) at

-- the tokens of `2+3×4`
abbrev pub sum_and_product : List Token
sum_and_product = constant_at 1 (2 ∷ []) ∷ function_at 2 Plus ∷ constant_at 3 (3 ∷ []) ∷ function_at 4 Times ∷ constant_at 5 (4 ∷ []) ∷ []

-- the tokens of `1 2+3`
abbrev pub vector_and_number : List Token
vector_and_number = constant_at 1 (1 ∷ 2 ∷ []) ∷ function_at 4 Plus ∷ constant_at 5 (3 ∷ []) ∷ []
