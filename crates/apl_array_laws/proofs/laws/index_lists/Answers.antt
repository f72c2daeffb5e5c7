use Rattle.apl_array_laws.proofs.IndexLists.{index_lists, one_order, stand_once, tests_within}
use Rattle.apl_array_laws.proofs.laws.index_lists.Goals as goal

pub returns-clause-within : goal.returns-clause-within
returns-clause-within c = tests_within

pub returns-clause-listed : goal.returns-clause-listed
returns-clause-listed c = index_lists

pub returns-clause-once : goal.returns-clause-once
returns-clause-once c = stand_once

pub returns-clause-one : goal.returns-clause-one
returns-clause-one c = one_order
