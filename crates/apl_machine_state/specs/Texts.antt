-- Texts that are typed or executed: their faults, and labels, which they have not.
use Rattle.std.specs.Prelude.{ℕ, Bool, true, false, List, ◌∷◌, Option, Some, None, if◌then◌else◌}
use Rattle.apl_faults.specs.declared.fault.Fault.{Fault}
use Rattle.apl_faults.specs.declared.fault.Fault.TheVariants.{Syntax, Limit as LimitFault}
use Rattle.apl_symbols.specs.declared.symbol.Symbol.TheVariants.{Colon}
use Rattle.apl_tokens.specs.declared.token.Kind.{Kind}
use Rattle.apl_tokens.specs.declared.token.Kind.TheVariants.{Name, Symbol}
use Rattle.apl_tokens.specs.declared.token.Token.{Token}
use Rattle.apl_tokens.specs.declared.line.TokenError.{TokenError}
use Rattle.apl_tokens.specs.declared.line.TokenError.TheVariants.{Quote, Unbalanced, Stray, Limit, TooLong}

-- A text that is no line has an error with a column: no text runs out of memory (`one_reading` of apl_tokens).

-- the text, or a number or a name in it, is over a limit
abbrev pub is_over_limit : TokenError → Bool
is_over_limit (Limit at) = true
is_over_limit (TooLong at) = true
is_over_limit error = false

-- the fault of a text that is no line
abbrev pub fault_of : TokenError → Fault
fault_of error = if is_over_limit error then LimitFault else Syntax

-- the column of an error in a text
abbrev pub column_of : TokenError → Option ℕ
column_of (Quote at) = Some at
column_of (Unbalanced at) = Some at
column_of (Stray at) = Some at
column_of (Limit at) = Some at
column_of (TooLong at) = Some at
column_of error = None

-- the column of the colon of a label
abbrev pub colon_behind : Kind → Kind → ℕ → Option ℕ
colon_behind (Name name) (Symbol Colon) at = Some at
colon_behind first second at = None

abbrev pub colon_of : List Token → Option ℕ
colon_of (first ∷ second ∷ tokens) = colon_behind first.kind second.kind second.at
colon_of tokens = None
