use Rattle.apl_tokens.proofs.Joins.{pushed_first, pushed_constant}
use Rattle.apl_tokens.specs.declared.token.Kind.TheVariants.{Constant}
use Rattle.apl_tokens.proofs.line.push_numbers.Goals as goal

pub returns-in-Constant : goal.returns-in-Constant
returns-in-Constant c = pushed_constant c.args.out.now.items c.pop.new.self.items c.push-in-Constant.new.self.items c.in-Some.last.kind c.in-Constant.prefix c.args.more c.in_ok-numbers-in-Constant.numbers c.in-Some.last.at c.args.at
    c.in-Some.ensures.items c.in-Constant.is c.in_ok-numbers-in-Constant.ensures c.in_ok-push-in-Constant.ensures.items

pub returns-in_default-kind : goal.returns-in_default-kind
returns-in_default-kind c = pushed_first c.args.out.now.items c.pop.new.self.items c.push-in_default-kind.new.self.items c.push-in_default-kind-2.new.self.items c.in-Some.last.kind c.in-Some.last.at (record { kind = Constant c.args.more; at = c.args.at })
    c.in-Some.ensures.items c.in_ok-push-in_default-kind.ensures.items c.in_ok-push-in_default-kind-2.ensures.items c.in_default-kind.not-Constant
