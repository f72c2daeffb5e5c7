-- A symbol's character is the symbol's own.
use Rattle.std.proofs.Common.{◌≡◌, ℕ, ◌==◌, Bool, true, false, cond, List, [], ◌∷◌, ◌++◌, Option, Some, None, refl, map}
use Rattle.std.specs.List.{find}
use Rattle.std.proofs.lemmas.Bool.{eqb-true}
use Rattle.apl_symbols.specs.declared.primitive.Primitive.{Primitive}
use Rattle.apl_symbols.specs.declared.primitive.Primitive.TheVariants as p
use Rattle.apl_symbols.specs.declared.symbol.Symbol.{Symbol}
use Rattle.apl_symbols.specs.declared.symbol.Symbol.TheVariants as s
use Rattle.apl_symbols.specs.Glyphs.{primitive_glyph, glyph_of, primitive_of, mark_of, symbol_of, primitives, marks, symbols}

some_step : (b : Bool) (g f : Primitive) (rest : Option Primitive) (others : Option Symbol) → (rest ≡ Some f → others ≡ Some (s.Primitive f)) → cond b (Some g) rest ≡ Some f → cond b (Some (s.Primitive g)) others ≡ Some (s.Primitive f)
some_step true g f rest others more h = cc
some_step false g f rest others more h = more h

none_step : (b : Bool) (g : Primitive) (rest : Option Primitive) (others last : Option Symbol) → (rest ≡ None → others ≡ last) → cond b (Some g) rest ≡ None → cond b (Some (s.Primitive g)) others ≡ last
none_step true g rest others last more h = absurd cc
none_step false g rest others last more h = more h

some_among : (fs : List Primitive) (rest : List Symbol) (c : ℕ) (f : Primitive) → find (λ f. primitive_glyph f == c) fs ≡ Some f → find (λ symbol. glyph_of symbol == c) (map s.Primitive fs ++ rest) ≡ Some (s.Primitive f)
some_among [] rest c f h = absurd cc
some_among (g ∷ fs) rest c f h = some_step (primitive_glyph g == c) g f _ _ (some_among fs rest c f) h

none_among : (fs : List Primitive) (rest : List Symbol) (c : ℕ) → find (λ f. primitive_glyph f == c) fs ≡ None → find (λ symbol. glyph_of symbol == c) (map s.Primitive fs ++ rest) ≡ find (λ symbol. glyph_of symbol == c) rest
none_among [] rest c h = refl
none_among (g ∷ fs) rest c h = none_step (primitive_glyph g == c) g _ _ _ (none_among fs rest c) h

pub symbol_of_some : (c : ℕ) (f : Primitive) → primitive_of c ≡ Some f → symbol_of c ≡ Some (s.Primitive f)
unfolding primitive_of symbol_of
symbol_of_some c f h = some_among primitives marks c f h

pub symbol_of_none : (c : ℕ) → primitive_of c ≡ None → symbol_of c ≡ mark_of c
unfolding primitive_of symbol_of mark_of
symbol_of_none c h = none_among primitives marks c h

found_step : (b : Bool) (first s : Symbol) (c : ℕ) (rest : Option Symbol) → ((glyph_of first == c) ≡ b) → (rest ≡ Some s → glyph_of s ≡ c) → cond b (Some first) rest ≡ Some s → glyph_of s ≡ c
found_step true first s c rest here more h = let same : first ≡ s = cc in let there : glyph_of first ≡ c = eqb-true (glyph_of first) c here in cc
found_step false first s c rest here more h = more h

found : (table : List Symbol) (c : ℕ) (s : Symbol) → find (λ symbol. glyph_of symbol == c) table ≡ Some s → glyph_of s ≡ c
found [] c s h = absurd cc
found (first ∷ table) c s h = found_step (glyph_of first == c) first s c _ refl (found table c s) h

-- a character that is a symbol is the symbol's
pub glyph_of_symbol : (c : ℕ) (s : Symbol) → symbol_of c ≡ Some s → glyph_of s ≡ c
unfolding symbol_of
glyph_of_symbol c s h = found symbols c s h

-- a symbol's character is that symbol
pub symbol_of_glyph : (s : Symbol) → symbol_of (glyph_of s) ≡ Some s
unfolding symbol_of
symbol_of_glyph (s.Primitive p.Plus) = refl
symbol_of_glyph (s.Primitive p.Minus) = refl
symbol_of_glyph (s.Primitive p.Times) = refl
symbol_of_glyph (s.Primitive p.Divide) = refl
symbol_of_glyph (s.Primitive p.Star) = refl
symbol_of_glyph (s.Primitive p.Upstile) = refl
symbol_of_glyph (s.Primitive p.Downstile) = refl
symbol_of_glyph (s.Primitive p.Stile) = refl
symbol_of_glyph (s.Primitive p.Tilde) = refl
symbol_of_glyph (s.Primitive p.Bang) = refl
symbol_of_glyph (s.Primitive p.Less) = refl
symbol_of_glyph (s.Primitive p.NotGreater) = refl
symbol_of_glyph (s.Primitive p.Equal) = refl
symbol_of_glyph (s.Primitive p.NotLess) = refl
symbol_of_glyph (s.Primitive p.Greater) = refl
symbol_of_glyph (s.Primitive p.NotEqual) = refl
symbol_of_glyph (s.Primitive p.And) = refl
symbol_of_glyph (s.Primitive p.Or) = refl
symbol_of_glyph (s.Primitive p.Nand) = refl
symbol_of_glyph (s.Primitive p.Nor) = refl
symbol_of_glyph (s.Primitive p.Rho) = refl
symbol_of_glyph (s.Primitive p.Iota) = refl
symbol_of_glyph (s.Primitive p.Comma) = refl
symbol_of_glyph (s.Primitive p.CircleStile) = refl
symbol_of_glyph (s.Primitive p.CircleBar) = refl
symbol_of_glyph (s.Primitive p.CircleSlope) = refl
symbol_of_glyph (s.Primitive p.UpArrow) = refl
symbol_of_glyph (s.Primitive p.DownArrow) = refl
symbol_of_glyph (s.Primitive p.Slash) = refl
symbol_of_glyph (s.Primitive p.SlashBar) = refl
symbol_of_glyph (s.Primitive p.Slope) = refl
symbol_of_glyph (s.Primitive p.SlopeBar) = refl
symbol_of_glyph (s.Primitive p.Epsilon) = refl
symbol_of_glyph (s.Primitive p.GradeUp) = refl
symbol_of_glyph (s.Primitive p.GradeDown) = refl
symbol_of_glyph (s.Primitive p.UpTack) = refl
symbol_of_glyph (s.Primitive p.DownTack) = refl
symbol_of_glyph (s.Primitive p.Format) = refl
symbol_of_glyph (s.Primitive p.Execute) = refl
symbol_of_glyph s.Dot = refl
symbol_of_glyph s.Jot = refl
symbol_of_glyph s.LeftArrow = refl
symbol_of_glyph s.RightArrow = refl
symbol_of_glyph s.OpenParenthesis = refl
symbol_of_glyph s.CloseParenthesis = refl
symbol_of_glyph s.OpenBracket = refl
symbol_of_glyph s.CloseBracket = refl
symbol_of_glyph s.Semicolon = refl
symbol_of_glyph s.Quad = refl
symbol_of_glyph s.Colon = refl
