use Rattle.std.proofs.Common.{refl}
use Rattle.apl_scalar.specs.Functions.{factorial, power}
use Rattle.apl_scalar.proofs.examples.worked_values.Goals as goal

pub returns-clause-factorial_of_20 : goal.returns-clause-factorial_of_20
unfolding factorial
returns-clause-factorial_of_20 c = refl

pub returns-clause-factorial_of_21 : goal.returns-clause-factorial_of_21
unfolding factorial
returns-clause-factorial_of_21 c = refl

pub returns-clause-power_62 : goal.returns-clause-power_62
unfolding power
returns-clause-power_62 c = refl

pub returns-clause-power_63 : goal.returns-clause-power_63
unfolding power
returns-clause-power_63 c = refl

pub returns-clause-negative_power_63 : goal.returns-clause-negative_power_63
unfolding power
returns-clause-negative_power_63 c = refl

pub returns-clause-power_of_minus_1 : goal.returns-clause-power_of_minus_1
unfolding power
returns-clause-power_of_minus_1 c = refl
