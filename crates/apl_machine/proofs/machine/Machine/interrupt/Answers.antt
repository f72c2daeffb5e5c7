use Rattle.apl_machine.proofs.Held.{interrupt_held}
use Rattle.apl_machine.proofs.machine.Machine.interrupt.Goals as goal

pub invariant_of-self-2 : goal.invariant_of-self-2
invariant_of-self-2 c = interrupt_held c.self.inside.workspace c.abandon.new.workspace c.self.invariant c.in_ok-abandon.ensures.sound c.in_ok-abandon.ensures.ok
