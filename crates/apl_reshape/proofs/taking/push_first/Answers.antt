use Rattle.apl_reshape.proofs.TakenRows.{first_items}
use Rattle.apl_reshape.proofs.taking.push_first.Goals as goal

pub returns : goal.returns
returns g c =
    first_items c.args.items.now c.split_at.result.0.now c.args.out.now.items c.extend_from_slice.new.self.items c.repeat.new.out.items c.args.fill c.args.wanted c.min-kept.result c.min-kept.ensures c.split_at.ensures.front c.in_ok-extend_from_slice.ensures.items c.in_ok-repeat.ensures
