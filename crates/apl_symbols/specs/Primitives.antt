-- What the primitive functions are.
use Rattle.std.specs.Prelude.{Bool, true, false, Option, Some, None}
use Rattle.apl_symbols.specs.declared.primitive.Primitive.{Primitive}
use Rattle.apl_symbols.specs.declared.primitive.Primitive.TheVariants as p
use Rattle.apl_symbols.specs.declared.primitive.Operator.{Operator}
use Rattle.apl_symbols.specs.declared.primitive.Operator.TheVariants as o

-- its dyadic function goes item by item: + - × ÷ * ⌈ ⌊ | < ≤ = ≥ > ≠ ∧ ∨ ⍲ ⍱
abbrev pub is_scalar : Primitive → Bool
is_scalar p.Plus = true
is_scalar p.Minus = true
is_scalar p.Times = true
is_scalar p.Divide = true
is_scalar p.Star = true
is_scalar p.Upstile = true
is_scalar p.Downstile = true
is_scalar p.Stile = true
is_scalar p.Less = true
is_scalar p.NotGreater = true
is_scalar p.Equal = true
is_scalar p.NotLess = true
is_scalar p.Greater = true
is_scalar p.NotEqual = true
is_scalar p.And = true
is_scalar p.Or = true
is_scalar p.Nand = true
is_scalar p.Nor = true
is_scalar f = false

-- the operator that it is directly after a function
abbrev pub operator_of : Primitive → Option Operator
operator_of p.Slash = Some o.Slash
operator_of p.SlashBar = Some o.SlashBar
operator_of p.Slope = Some o.Slope
operator_of p.SlopeBar = Some o.SlopeBar
operator_of f = None
