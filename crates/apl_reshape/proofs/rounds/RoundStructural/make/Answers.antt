use Rattle.apl_reshape.proofs.InRounds.{filled_round, single_round}
use Rattle.apl_reshape.proofs.rounds.RoundStructural.make.Goals as goal

pub returns-in_ok-repeat-in-empty : goal.returns-in_ok-repeat-in-empty
returns-in_ok-repeat-in-empty g c =
    λ d. filled_round c.args.items.now c.in_ok-out.out.items c.repeat.new.out.items c.args.fill c.args.self.count c.in-empty.len_below c.in_ok-out.ensures.items c.in_ok-repeat-in-empty.ensures

pub returns-in_ok-repeat-in-len1 : goal.returns-in_ok-repeat-in-len1
returns-in_ok-repeat-in-len1 g c =
    λ d. single_round c.args.items.now c.in_ok-out.out.items c.repeat-in-len1.new.out.items c.item-item.result c.args.fill c.args.self.count c.in-len1.len_at_least c.in-len1.len_below c.item-item.is c.in_ok-out.ensures.items c.in_ok-repeat-in-len1.ensures
