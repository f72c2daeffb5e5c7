use Rattle.apl_array_laws.proofs.Grades.{grades_down, grades_up, one_down, one_up}
use Rattle.apl_array_laws.proofs.laws.grades_sort_places.Goals as goal

pub returns-clause-up : goal.returns-clause-up
returns-clause-up c = grades_up

pub returns-clause-down : goal.returns-clause-down
returns-clause-down c = grades_down

pub returns-clause-one_up : goal.returns-clause-one_up
returns-clause-one_up c = one_up

pub returns-clause-one_down : goal.returns-clause-one_down
returns-clause-one_down c = one_down
