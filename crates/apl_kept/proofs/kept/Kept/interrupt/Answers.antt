use Rattle.apl_kept.proofs.Beginning.{stopped}
use Rattle.apl_kept.proofs.kept.Kept.interrupt.Goals as goal

pub invariant_of-self : goal.invariant_of-self
invariant_of-self c = stopped c.interrupt.result c.self.inside.session c.interrupt.new.self c.interrupt.ensures.ok c.interrupt.ensures.err c.self.invariant
