use Rattle.std.proofs.Common.{refl}
use Rattle.apl_symbols.specs.Glyphs.{primitive_of, mark_of, symbol_of}
use Rattle.apl_tokens.specs.Characters.{class_of}
use Rattle.apl_tokens.specs.Reading.{next_at, next_of, number_at, name_at, body_at, text_at, symbol_at, quad_at}
use Rattle.apl_tokens.specs.Faults.{faults_from}
use Rattle.apl_tokens.proofs.line.worked_faults.Goals as goal

pub returns-clause-one_column : goal.returns-clause-one_column
unfolding faults_from next_at next_of number_at name_at text_at body_at symbol_at quad_at class_of symbol_of primitive_of mark_of
returns-clause-one_column c = refl

pub returns-clause-behind_limit : goal.returns-clause-behind_limit
unfolding faults_from next_at next_of number_at name_at text_at body_at symbol_at quad_at class_of symbol_of primitive_of mark_of
returns-clause-behind_limit c = refl

pub returns-clause-apart : goal.returns-clause-apart
unfolding faults_from next_at next_of number_at name_at text_at body_at symbol_at quad_at class_of symbol_of primitive_of mark_of
returns-clause-apart c = refl

pub returns-clause-brackets : goal.returns-clause-brackets
unfolding faults_from next_at next_of number_at name_at text_at body_at symbol_at quad_at class_of symbol_of primitive_of mark_of
returns-clause-brackets c = refl
