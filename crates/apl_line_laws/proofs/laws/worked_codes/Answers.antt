use Rattle.std.proofs.Common.{refl}
use lib.Utf8.{encode}
use Rattle.std.specs.Fmt.{digits}
use Rattle.apl_symbols.specs.Glyphs.{primitive_of, mark_of, symbol_of}
use Rattle.apl_symbols.specs.SystemNames.{system_named}
use Rattle.apl_tokens.specs.Characters.{class_of}
use Rattle.apl_tokens.specs.Reading.{next_at, next_of, number_at, name_at, body_at, text_at, symbol_at, quad_at}
use Rattle.apl_tokens.specs.Brackets.{unmatched}
use Rattle.apl_tokens.specs.Tokens.{pieces_of, tokens_of}
use Rattle.apl_translate.specs.Binding.{bound_of, names_of}
use Rattle.apl_line_laws.specs.Statements.{statements}
use Rattle.apl_line_laws.specs.Groups.{groups, index_lists}
use Rattle.apl_line_laws.specs.Names.{variables, calls, selections}
use Rattle.apl_line_laws.specs.Functions.{monadic, no_left_argument, left_argument, ends, monadic_with_axis, dyadic}
use Rattle.apl_line_laws.specs.Operators.{reductions, inner_products, outer_products}
use Rattle.apl_line_laws.specs.Ends.{before_closing_items, before_a_function}
use Rattle.apl_line_laws.specs.Assignments.{assignments, branches, endings}
use Rattle.apl_line_laws.proofs.Computed.{all_listed}
use Rattle.apl_line_laws.proofs.laws.worked_codes.Goals as goal

pub returns-clause-statements : goal.returns-clause-statements
unfolding tokens_of pieces_of unmatched next_at next_of number_at name_at text_at body_at symbol_at quad_at class_of symbol_of primitive_of mark_of system_named bound_of names_of digits encode
returns-clause-statements c = all_listed statements refl

pub returns-clause-groups : goal.returns-clause-groups
unfolding tokens_of pieces_of unmatched next_at next_of number_at name_at text_at body_at symbol_at quad_at class_of symbol_of primitive_of mark_of system_named bound_of names_of digits encode
returns-clause-groups c = all_listed groups refl

pub returns-clause-index_lists : goal.returns-clause-index_lists
unfolding tokens_of pieces_of unmatched next_at next_of number_at name_at text_at body_at symbol_at quad_at class_of symbol_of primitive_of mark_of system_named bound_of names_of digits encode
returns-clause-index_lists c = all_listed index_lists refl

pub returns-clause-variables : goal.returns-clause-variables
unfolding tokens_of pieces_of unmatched next_at next_of number_at name_at text_at body_at symbol_at quad_at class_of symbol_of primitive_of mark_of system_named bound_of names_of digits encode
returns-clause-variables c = all_listed variables refl

pub returns-clause-calls : goal.returns-clause-calls
unfolding tokens_of pieces_of unmatched next_at next_of number_at name_at text_at body_at symbol_at quad_at class_of symbol_of primitive_of mark_of system_named bound_of names_of digits encode
returns-clause-calls c = all_listed calls refl

pub returns-clause-selections : goal.returns-clause-selections
unfolding tokens_of pieces_of unmatched next_at next_of number_at name_at text_at body_at symbol_at quad_at class_of symbol_of primitive_of mark_of system_named bound_of names_of digits encode
returns-clause-selections c = all_listed selections refl

pub returns-clause-monadic : goal.returns-clause-monadic
unfolding tokens_of pieces_of unmatched next_at next_of number_at name_at text_at body_at symbol_at quad_at class_of symbol_of primitive_of mark_of system_named bound_of names_of digits encode
returns-clause-monadic c = all_listed monadic refl

pub returns-clause-no_left_argument : goal.returns-clause-no_left_argument
unfolding tokens_of pieces_of unmatched next_at next_of number_at name_at text_at body_at symbol_at quad_at class_of symbol_of primitive_of mark_of system_named bound_of names_of digits encode
returns-clause-no_left_argument c = all_listed no_left_argument refl

pub returns-clause-left_argument : goal.returns-clause-left_argument
unfolding tokens_of pieces_of unmatched next_at next_of number_at name_at text_at body_at symbol_at quad_at class_of symbol_of primitive_of mark_of system_named bound_of names_of digits encode
returns-clause-left_argument c = all_listed left_argument refl

pub returns-clause-ends : goal.returns-clause-ends
unfolding tokens_of pieces_of unmatched next_at next_of number_at name_at text_at body_at symbol_at quad_at class_of symbol_of primitive_of mark_of system_named bound_of names_of digits encode
returns-clause-ends c = all_listed ends refl

pub returns-clause-before_closing_items : goal.returns-clause-before_closing_items
unfolding tokens_of pieces_of unmatched next_at next_of number_at name_at text_at body_at symbol_at quad_at class_of symbol_of primitive_of mark_of system_named bound_of names_of digits encode
returns-clause-before_closing_items c = all_listed before_closing_items refl

pub returns-clause-before_a_function : goal.returns-clause-before_a_function
unfolding tokens_of pieces_of unmatched next_at next_of number_at name_at text_at body_at symbol_at quad_at class_of symbol_of primitive_of mark_of system_named bound_of names_of digits encode
returns-clause-before_a_function c = all_listed before_a_function refl

pub returns-clause-monadic_with_axis : goal.returns-clause-monadic_with_axis
unfolding tokens_of pieces_of unmatched next_at next_of number_at name_at text_at body_at symbol_at quad_at class_of symbol_of primitive_of mark_of system_named bound_of names_of digits encode
returns-clause-monadic_with_axis c = all_listed monadic_with_axis refl

pub returns-clause-dyadic : goal.returns-clause-dyadic
unfolding tokens_of pieces_of unmatched next_at next_of number_at name_at text_at body_at symbol_at quad_at class_of symbol_of primitive_of mark_of system_named bound_of names_of digits encode
returns-clause-dyadic c = all_listed dyadic refl

pub returns-clause-reductions : goal.returns-clause-reductions
unfolding tokens_of pieces_of unmatched next_at next_of number_at name_at text_at body_at symbol_at quad_at class_of symbol_of primitive_of mark_of system_named bound_of names_of digits encode
returns-clause-reductions c = all_listed reductions refl

pub returns-clause-inner_products : goal.returns-clause-inner_products
unfolding tokens_of pieces_of unmatched next_at next_of number_at name_at text_at body_at symbol_at quad_at class_of symbol_of primitive_of mark_of system_named bound_of names_of digits encode
returns-clause-inner_products c = all_listed inner_products refl

pub returns-clause-outer_products : goal.returns-clause-outer_products
unfolding tokens_of pieces_of unmatched next_at next_of number_at name_at text_at body_at symbol_at quad_at class_of symbol_of primitive_of mark_of system_named bound_of names_of digits encode
returns-clause-outer_products c = all_listed outer_products refl

pub returns-clause-assignments : goal.returns-clause-assignments
unfolding tokens_of pieces_of unmatched next_at next_of number_at name_at text_at body_at symbol_at quad_at class_of symbol_of primitive_of mark_of system_named bound_of names_of digits encode
returns-clause-assignments c = all_listed assignments refl

pub returns-clause-branches : goal.returns-clause-branches
unfolding tokens_of pieces_of unmatched next_at next_of number_at name_at text_at body_at symbol_at quad_at class_of symbol_of primitive_of mark_of system_named bound_of names_of digits encode
returns-clause-branches c = all_listed branches refl

pub returns-clause-endings : goal.returns-clause-endings
unfolding tokens_of pieces_of unmatched next_at next_of number_at name_at text_at body_at symbol_at quad_at class_of symbol_of primitive_of mark_of system_named bound_of names_of digits encode
returns-clause-endings c = all_listed endings refl
