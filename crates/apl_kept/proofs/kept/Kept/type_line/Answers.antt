use Rattle.apl_kept.proofs.Beginning.{fed}
use Rattle.apl_kept.proofs.kept.Kept.type_line.Goals as goal

pub invariant_of-self : goal.invariant_of-self
invariant_of-self c = fed c.feed.result c.self.inside.session c.feed.new.self c.args.line.now c.feed.ensures.ok c.feed.ensures.err c.self.invariant
