-- The characters of the symbols.
use Rattle.std.specs.Prelude.{ℕ, List, [], ◌∷◌, ◌++◌, map, Option, ◌==◌}
use Rattle.std.specs.List.{find}
use Rattle.apl_symbols.specs.declared.primitive.Primitive.{Primitive}
use Rattle.apl_symbols.specs.declared.primitive.Primitive.TheVariants as p
use Rattle.apl_symbols.specs.declared.symbol.Symbol.{Symbol}
use Rattle.apl_symbols.specs.declared.symbol.Symbol.TheVariants as s

-- the character of a primitive function
abbrev pub primitive_glyph : Primitive → ℕ
primitive_glyph p.Plus = 0x2B
primitive_glyph p.Minus = 0x2D
primitive_glyph p.Times = 0xD7
primitive_glyph p.Divide = 0xF7
primitive_glyph p.Star = 0x2A
primitive_glyph p.Upstile = 0x2308
primitive_glyph p.Downstile = 0x230A
primitive_glyph p.Stile = 0x7C
primitive_glyph p.Tilde = 0x7E
primitive_glyph p.Bang = 0x21
primitive_glyph p.Less = 0x3C
primitive_glyph p.NotGreater = 0x2264
primitive_glyph p.Equal = 0x3D
primitive_glyph p.NotLess = 0x2265
primitive_glyph p.Greater = 0x3E
primitive_glyph p.NotEqual = 0x2260
primitive_glyph p.And = 0x2227
primitive_glyph p.Or = 0x2228
primitive_glyph p.Nand = 0x2372
primitive_glyph p.Nor = 0x2371
primitive_glyph p.Rho = 0x2374
primitive_glyph p.Iota = 0x2373
primitive_glyph p.Comma = 0x2C
primitive_glyph p.CircleStile = 0x233D
primitive_glyph p.CircleBar = 0x2296
primitive_glyph p.CircleSlope = 0x2349
primitive_glyph p.UpArrow = 0x2191
primitive_glyph p.DownArrow = 0x2193
primitive_glyph p.Slash = 0x2F
primitive_glyph p.SlashBar = 0x233F
primitive_glyph p.Slope = 0x5C
primitive_glyph p.SlopeBar = 0x2340
primitive_glyph p.Epsilon = 0x220A
primitive_glyph p.GradeUp = 0x234B
primitive_glyph p.GradeDown = 0x2352
primitive_glyph p.UpTack = 0x22A5
primitive_glyph p.DownTack = 0x22A4
primitive_glyph p.Format = 0x2355
primitive_glyph p.Execute = 0x234E

-- the character of a symbol
abbrev pub glyph_of : Symbol → ℕ
glyph_of (s.Primitive f) = primitive_glyph f
glyph_of s.Dot = 0x2E
glyph_of s.Jot = 0x2218
glyph_of s.LeftArrow = 0x2190
glyph_of s.RightArrow = 0x2192
glyph_of s.OpenParenthesis = 0x28
glyph_of s.CloseParenthesis = 0x29
glyph_of s.OpenBracket = 0x5B
glyph_of s.CloseBracket = 0x5D
glyph_of s.Semicolon = 0x3B
glyph_of s.Quad = 0x2395
glyph_of s.Colon = 0x3A

-- every primitive function
abbrev pub primitives : List Primitive
primitives =
    p.Plus ∷ p.Minus ∷ p.Times ∷ p.Divide ∷ p.Star ∷ p.Upstile ∷ p.Downstile ∷ p.Stile ∷ p.Tilde ∷ p.Bang ∷ p.Less ∷
    p.NotGreater ∷ p.Equal ∷ p.NotLess ∷ p.Greater ∷ p.NotEqual ∷ p.And ∷ p.Or ∷ p.Nand ∷ p.Nor ∷ p.Rho ∷ p.Iota ∷
    p.Comma ∷ p.CircleStile ∷ p.CircleBar ∷ p.CircleSlope ∷ p.UpArrow ∷ p.DownArrow ∷ p.Slash ∷ p.SlashBar ∷ p.Slope ∷
    p.SlopeBar ∷ p.Epsilon ∷ p.GradeUp ∷ p.GradeDown ∷ p.UpTack ∷ p.DownTack ∷ p.Format ∷ p.Execute ∷ []

-- the symbols that are no primitive functions
abbrev pub marks : List Symbol
marks =
    s.Dot ∷ s.Jot ∷ s.LeftArrow ∷ s.RightArrow ∷ s.OpenParenthesis ∷ s.CloseParenthesis ∷ s.OpenBracket ∷
    s.CloseBracket ∷ s.Semicolon ∷ s.Quad ∷ s.Colon ∷ []

-- every symbol
abbrev pub symbols : List Symbol
symbols = map s.Primitive primitives ++ marks

-- the primitive function that a character writes
unfoldable pub primitive_of : ℕ → Option Primitive
primitive_of c = find (λ f. primitive_glyph f == c) primitives

-- the symbol that a character is, of those that are no primitive functions
unfoldable pub mark_of : ℕ → Option Symbol
mark_of c = find (λ symbol. glyph_of symbol == c) marks

-- the symbol that a character is
unfoldable pub symbol_of : ℕ → Option Symbol
symbol_of c = find (λ symbol. glyph_of symbol == c) symbols
