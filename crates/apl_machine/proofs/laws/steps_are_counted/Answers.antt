use Rattle.apl_machine.proofs.Counted.{steps-counted}
use Rattle.apl_machine.proofs.laws.steps_are_counted.Goals as goal

pub returns : goal.returns
returns c = steps-counted
