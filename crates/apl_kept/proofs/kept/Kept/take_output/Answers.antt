use Rattle.apl_kept.proofs.Beginning.{taken}
use Rattle.apl_kept.proofs.kept.Kept.take_output.Goals as goal

pub invariant_of-self : goal.invariant_of-self
invariant_of-self c = taken c.self.inside.session c.take_output.new.self c.take_output.ensures.rest c.self.invariant
