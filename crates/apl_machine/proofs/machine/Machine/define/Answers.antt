use Rattle.apl_machine.proofs.Held.{defined_held}
use Rattle.apl_machine.proofs.machine.Machine.define.Goals as goal

pub invariant_of-self-2 : goal.invariant_of-self-2
invariant_of-self-2 c = defined_held c.self.inside.workspace c.define.new.workspace c.args.definition c.in_ok-define.ensures.defined c.self.invariant c.in_ok-define.ensures.sound c.in_ok-define.ensures.ok
