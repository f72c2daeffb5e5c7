use Rattle.std.proofs.Common.{◌<◌, ◌-◌, length, arith}
use Rattle.apl_scalar.proofs.OfLanes.{as_many, number_of_item}
use Rattle.apl_folds.proofs.TruthRows.{truth_before}
use Rattle.apl_folds.proofs.truths.fold_truths.Goals as goal

pub loop-k-preserved : goal.loop-k-preserved
loop-k-preserved g c =
    let value = g.L.Lane.value in
    let numbers = g.L.Lane.numbers in
    let each = g.met.L.Lane.each in
    let k = c.loop-k.k in
    let within : k < length (numbers c.args.numbers.now) = omega (arith, as_many value numbers each c.args.numbers.now) in
    truth_before g.C.Connective.meaning (numbers c.args.numbers.now) k (value c.index-numbers-k.result) (value c.loop-k.all) (value c.connected-all.result) (value c.loop-k.bound) (value c.both-bound.result) c.loop-k.invariant
    (number_of_item value numbers each c.args.numbers.now (k - 1) c.index-numbers-k.result (omega arith) c.index-numbers-k.is)
    c.connected-all.ensures c.both-bound.ensures c.loop-k-test.true within
