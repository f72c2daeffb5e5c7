use Rattle.std.proofs.Common.{◌≡◌, ◌<◌, length, sym, ◌∙◌, rules, arith}
use Rattle.apl_scalar.proofs.Filling.{fill_step}
use Rattle.apl_scalar.proofs.OfLanes.{number_of_item}
use Rattle.apl_operators.specs.inside.SumsOfProducts.{product_of, sum_from}
use Rattle.apl_operators.proofs.SumsOfProducts.{others_stay}
use Rattle.apl_operators.proofs.sums_of_products.add_rows.Goals as goal

pub sum_column-requires-clause-last : goal.sum_column-requires-clause-last
sum_column-requires-clause-last g c =
    let within : c.loop-column.column < length c.loop-column.sums = search rules in
    sym (number_of_item g.M.Lane.value g.M.Lane.numbers g.met.M.Lane.each c.loop-column.sums c.loop-column.column c.index-sums-column.result within c.index-sums-column.is)
    ∙ c.loop-column.invariant.others c.loop-column.column (omega arith)
    ∙ c.requires.last c.loop-column.column (omega arith)

pub loop-column-preserved : goal.loop-column-preserved
loop-column-preserved g c =
    let within : c.loop-column.column < length c.loop-column.sums = search rules in
    record {
      so_far = fill_step g.M.Lane.value g.M.Lane.numbers g.met.M.Lane.each (λ q z. z ≡ sum_from (product_of (g.L.Lane.numbers c.args.xs.now) (g.L.Lane.numbers c.args.ys.now) (length c.args.sums.now) q) c.args.from (length c.args.xs.now))
          c.loop-column.column c.loop-column.sums c.sum_column.result within c.loop-column.invariant.so_far c.sum_column.ensures;
      others = others_stay g.M.Lane.value g.M.Lane.numbers g.met.M.Lane.each (g.M.Lane.numbers c.args.sums.now) c.loop-column.sums c.loop-column.column c.sum_column.result c.loop-column.invariant.others;
    }
