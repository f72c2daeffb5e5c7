use Rattle.apl_machine.proofs.Held.{erased_held}
use Rattle.apl_machine.proofs.machine.Machine.erase.Goals as goal

pub invariant_of-self : goal.invariant_of-self
invariant_of-self c = erased_held c.self.inside.workspace c.erase.new.workspace c.args.names.now c.self.invariant c.erase.ensures.sound c.erase.ensures.erased
