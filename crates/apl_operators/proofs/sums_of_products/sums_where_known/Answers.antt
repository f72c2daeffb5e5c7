use Rattle.std.proofs.Common.{refl}
use Rattle.std.specs.Int.{w32}
use Rattle.apl_arrays.specs.Widths.{more_than_w32}
use Rattle.apl_operators.proofs.SumsOfProducts.{folds_are_sums, fit_wide}
use Rattle.apl_operators.proofs.sums_of_products.sums_where_known.Goals as goal

pub returns-then-fit_together : goal.returns-then-fit_together
returns-then-fit_together g c =
    let xs = g.L.Lane.numbers c.args.xs.now in
    let ys = g.L.Lane.numbers c.args.ys.now in
    folds_are_sums xs ys c.in_ok-sums_in.field-0.items c.args.joint.now c.requires.table
    (fit_wide w32 xs ys c.args.joint.now.joined more_than_w32 (c.if-fit_together.ensures refl xs ys c.largest-left.ensures c.largest-right.ensures)) c.in_ok-sums_in.ensures

pub returns-then-fit_together-2 : goal.returns-then-fit_together-2
returns-then-fit_together-2 g c =
    let xs = g.L.Lane.numbers c.args.xs.now in
    let ys = g.L.Lane.numbers c.args.ys.now in
    folds_are_sums xs ys c.in_ok-sums_in-2.field-0.items c.args.joint.now c.requires.table
    (c.if-fit_together-2.ensures refl xs ys c.largest-left.ensures c.largest-right.ensures) c.in_ok-sums_in-2.ensures
