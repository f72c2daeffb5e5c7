use Rattle.std.proofs.Common.{◌+◌, ◌-◌, drop, take, ap, ◌∙◌}
use Rattle.apl_scalar.proofs.OfLanes.{numbers-take, numbers-drop}
use Rattle.apl_folds.proofs.lanes.row.Goals as goal

pub returns-clause-numbers : goal.returns-clause-numbers
returns-clause-numbers g c =
    let lane = g.met.L.Lane in
    let count = c.args.at + c.args.count - c.args.at in
    numbers-take g.L.Lane.value g.L.Lane.numbers lane.each count (drop c.args.at c.args.numbers.now)
    ∙ ap (take count) (numbers-drop g.L.Lane.value g.L.Lane.numbers lane.each c.args.at c.args.numbers.now)
