use Rattle.apl_symbols.proofs.Glyphs.{symbol_of_glyph, glyph_of_symbol}
use Rattle.apl_symbols.proofs.symbol.symbols_by_glyph.Goals as goal

pub returns-clause-written : goal.returns-clause-written
returns-clause-written c = symbol_of_glyph

pub returns-clause-read : goal.returns-clause-read
returns-clause-read c = glyph_of_symbol
