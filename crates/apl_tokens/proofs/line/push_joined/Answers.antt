use Rattle.apl_tokens.proofs.Joins.{pushed_apart}
use Rattle.apl_tokens.proofs.line.push_joined.Goals as goal

pub returns-in_ok-push-in_default : goal.returns-in_ok-push-in_default
returns-in_ok-push-in_default c = pushed_apart c.args.out.now.items c.push.new.self.items c.args.token.kind c.args.token.at c.in_ok-push-in_default.ensures.items c.in_default.not-Constant
