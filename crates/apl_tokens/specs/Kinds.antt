-- Tests of a token.
use Rattle.std.specs.Prelude.{Bool, true, false}
use Rattle.apl_symbols.specs.declared.symbol.Symbol.TheVariants.{Colon}
use Rattle.apl_tokens.specs.declared.token.Kind.{Kind}
use Rattle.apl_tokens.specs.declared.token.Kind.TheVariants.{Name, Symbol}

-- a user name
abbrev pub is_name : Kind → Bool
is_name (Name name) = true
is_name kind = false

abbrev pub is_colon : Kind → Bool
is_colon (Symbol Colon) = true
is_colon kind = false
