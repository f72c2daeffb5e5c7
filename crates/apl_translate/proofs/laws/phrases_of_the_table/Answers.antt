use Rattle.apl_translate.proofs.Table as table
use Rattle.apl_translate.proofs.laws.phrases_of_the_table.Goals as goal

pub returns-clause-begins : goal.returns-clause-begins
returns-clause-begins c = table.begins

pub returns-clause-found : goal.returns-clause-found
returns-clause-found c = table.begins_is

pub returns-clause-one : goal.returns-clause-one
returns-clause-one c = table.one

pub returns-clause-placed : goal.returns-clause-placed
returns-clause-placed c = table.placed

pub returns-clause-furthest : goal.returns-clause-furthest
returns-clause-furthest c = table.furthest

pub returns-clause-chosen : goal.returns-clause-chosen
returns-clause-chosen c = table.furthest_is

pub returns-clause-none : goal.returns-clause-none
returns-clause-none c = table.none

pub returns-clause-none_chosen : goal.returns-clause-none_chosen
returns-clause-none_chosen c = table.none_is
