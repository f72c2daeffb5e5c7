use Rattle.apl_array_laws.proofs.FiniteMaps.{are_equal, have_elements, have_one_type, numbers_are_arrays, texts_are_arrays}
use Rattle.apl_array_laws.proofs.laws.arrays_are_finite_maps.Goals as goal

pub returns-clause-domain : goal.returns-clause-domain
returns-clause-domain c = have_elements

pub returns-clause-typed : goal.returns-clause-typed
returns-clause-typed c = have_one_type

pub returns-clause-equal : goal.returns-clause-equal
returns-clause-equal c = are_equal

pub returns-clause-numbers : goal.returns-clause-numbers
returns-clause-numbers c = numbers_are_arrays

pub returns-clause-characters : goal.returns-clause-characters
returns-clause-characters c = texts_are_arrays
