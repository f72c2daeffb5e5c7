use Rattle.apl_reshape.proofs.TakenRows.{last_items}
use Rattle.apl_reshape.proofs.taking.push_last.Goals as goal

pub returns : goal.returns
returns g c =
    last_items c.args.items.now c.split_at.result.1.now c.args.out.now.items c.repeat.new.out.items c.extend_from_slice.new.self.items c.args.fill c.args.wanted c.min-kept.result c.min-kept.ensures c.split_at.ensures.back c.in_ok-repeat.ensures c.in_ok-extend_from_slice.ensures.items
