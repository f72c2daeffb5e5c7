use Rattle.apl_charset.proofs.Places.{symbol_stands}
use Rattle.apl_charset.proofs.character.Ch.new.Goals as goal

pub returns-in-Some-clause-some : goal.returns-in-Some-clause-some
returns-in-Some-clause-some c = symbol_stands c.in-Some.place c.args.c c.in-Some.ensures.some.0 c.in-Some.ensures.some.1
