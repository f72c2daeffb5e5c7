use Rattle.apl_folds.proofs.InQuarters.{in_parts}
use Rattle.apl_folds.proofs.quarters.choose_quarters.Goals as goal

pub returns : goal.returns
returns g c =
    let value = g.L.Lane.value in
    let numbers = g.L.Lane.numbers in
    let each = g.met.L.Lane.each in
    let f = g.C.Scalar.meaning in
    let a = g.met.C.Choice.associative in
    let folds = c.choose_rows-one.result in
    in_parts value numbers each f a c.args.numbers.now c.split_at.result.0.now c.split_at.result.1.now c.args.size (value folds.0) (value c.of-2.result) (value c.of-3.result) c.split_at.ensures.front c.split_at.ensures.back
    c.choose_rows-one.ensures.first
    (in_parts value numbers each f a c.split_at.result.1.now c.split_at-2.result.0.now c.split_at-2.result.1.now c.args.size (value folds.1) (value c.of.result) (value c.of-2.result) c.split_at-2.ensures.front c.split_at-2.ensures.back
    c.choose_rows-one.ensures.second
    (in_parts value numbers each f a c.split_at-2.result.1.now c.split_at-3.result.0.now c.split_at-3.result.1.now c.args.size (value folds.2) (value folds.3) (value c.of.result) c.split_at-3.ensures.front c.split_at-3.ensures.back
    c.choose_rows-one.ensures.third c.choose_rows-one.ensures.fourth c.of.ensures)
    c.of-2.ensures)
    c.of-3.ensures
