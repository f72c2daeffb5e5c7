use Rattle.apl_kept.proofs.Beginning.{made}
use Rattle.apl_kept.proofs.kept.Kept.make_steps.Goals as goal

pub invariant_of-self : goal.invariant_of-self
invariant_of-self c = made c.make_steps.result c.self.inside.session c.make_steps.new.self c.args.count c.make_steps.ensures.ok c.make_steps.ensures.err c.self.invariant
