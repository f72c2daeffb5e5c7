use Rattle.apl_symbols.proofs.Glyphs.{symbol_of_some, symbol_of_none}
use Rattle.apl_symbols.proofs.symbol.Symbol.new.Goals as goal

pub returns-in-Some : goal.returns-in-Some
returns-in-Some c = let e = symbol_of_some c.args.c c.in-Some.function cc in cc

pub returns-in-None : goal.returns-in-None
returns-in-None c = let e = symbol_of_none c.args.c cc in cc
