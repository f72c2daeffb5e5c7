use Rattle.std.proofs.Common.{◌++◌, pos, replicate, ap, ◌∙◌, rules, arith}
use Rattle.apl_scalar.proofs.OfLanes.{numbers-append, numbers-replicate}
use Rattle.apl_scalar.proofs.Rooms.{resized}
use Rattle.apl_scalar.proofs.room.grow.Goals as goal

pub returns-clause-grown : goal.returns-clause-grown
returns-clause-grown g c =
    let numbers = g.L.Lane.numbers in
    let old = c.args.out.now in
    let low = c.low.result in
    ap numbers (resized old.items c.resize.new.self.items low c.args.count old.len c.in-Some.all (search rules) (omega arith) c.in_ok-resize.ensures.items)
    ∙ numbers-append g.L.Lane.value numbers g.met.L.Lane.each old.items (replicate c.args.count low)
    ∙ ap (λ zs. numbers old.items ++ zs) (numbers-replicate g.L.Lane.value numbers g.met.L.Lane.each c.args.count low (pos 0) (c.low.ensures (search rules)))
