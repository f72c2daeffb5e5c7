use Rattle.std.proofs.Common.{refl}
use Rattle.apl_symbols.specs.Glyphs.{primitive_of, mark_of, symbol_of}
use Rattle.apl_tokens.specs.Characters.{class_of}
use Rattle.apl_tokens.specs.Reading.{next_at, next_of, number_at, symbol_at}
use Rattle.apl_tokens.specs.Brackets.{unmatched}
use Rattle.apl_tokens.specs.Tokens.{pieces_of, tokens_of}
use Rattle.apl_tokens.proofs.line.worked_readings.Goals as goal

pub returns-clause-numbers : goal.returns-clause-numbers
unfolding tokens_of pieces_of unmatched next_at next_of number_at symbol_at class_of symbol_of primitive_of mark_of
returns-clause-numbers c = refl

pub returns-clause-constant : goal.returns-clause-constant
unfolding tokens_of pieces_of unmatched next_at next_of number_at symbol_at class_of symbol_of primitive_of mark_of
returns-clause-constant c = refl

pub returns-clause-bracket : goal.returns-clause-bracket
unfolding tokens_of pieces_of unmatched next_at next_of number_at symbol_at class_of symbol_of primitive_of mark_of
returns-clause-bracket c = refl

pub returns-clause-stray : goal.returns-clause-stray
unfolding tokens_of pieces_of unmatched next_at next_of number_at symbol_at class_of symbol_of primitive_of mark_of
returns-clause-stray c = refl
