use Rattle.std.proofs.Common.{◌≡◌, ◌<◌, ◌+◌, ◌-◌, ◌*◌, ℕ, ℤ, pos, get_or, length, ap, sym, ◌∙◌, subst, arith}
use Rattle.std.proofs.lemmas.Nat.{mul-add-lt}
use Rattle.apl_scalar.proofs.OfLanes.{number_of_item}
use Rattle.apl_operators.specs.inside.SumsOfProducts.{product_of, sum_from, IsMore}
use Rattle.apl_operators.proofs.SumsOfProducts.{sum_more}
use Rattle.apl_operators.proofs.sums_of_products.sum_column.Goals as goal

pub bounds-ys-k : goal.bounds-ys-k
bounds-ys-k g c =
    omega (arith, c.requires.whole, mul-add-lt (c.args.from + (c.loop-i.i - 1)) c.args.width c.args.column (length c.args.xs.now) (omega arith) c.requires.column)

pub offset_bounds-ys-k : goal.offset_bounds-ys-k
offset_bounds-ys-k g c =
    omega (arith, c.requires.whole, mul-add-lt (c.args.from + (c.loop-i.i - 1)) c.args.width c.args.column (length c.args.xs.now) (omega arith) c.requires.column)

pub loop-i-preserved : goal.loop-i-preserved
loop-i-preserved g c =
    let value = g.L.Lane.value in
    let numbers = g.L.Lane.numbers in
    let xs = numbers c.args.xs.now in
    let ys = numbers c.args.ys.now in
    let n = length c.args.xs.now in
    let k = c.args.from + (c.loop-i.i - 1) in
    let next : c.args.from + c.loop-i.i ≡ k + 1 = omega arith in
    let row : k < length c.args.xs.now = omega arith in
    let place : k * c.args.width + c.args.column < length c.args.ys.now = omega (arith, c.requires.whole, mul-add-lt k c.args.width c.args.column n row c.requires.column) in
    let x : get_or xs k (pos 0) ≡ value c.index-xs-k.result = number_of_item value numbers g.met.L.Lane.each c.args.xs.now k c.index-xs-k.result row c.index-xs-k.is in
    let y : get_or ys (k * c.args.width + c.args.column) (pos 0) ≡ value c.index-ys-k.result =
    number_of_item value numbers g.met.L.Lane.each c.args.ys.now (k * c.args.width + c.args.column) c.index-ys-k.result place c.index-ys-k.is
    in
    let P : ℤ → Type 0 = λ z. IsMore g.M.Lane.width z (value c.index-ys-k.result) (g.M.Lane.value c.loop-i.sum) (g.M.Lane.value c.more-sum.result) in
    let Q : ℤ → Type 0 = λ z. IsMore g.M.Lane.width (get_or (numbers c.args.xs.now) (c.args.from + (c.loop-i.i - 1)) (pos 0)) z (g.M.Lane.value c.loop-i.sum) (g.M.Lane.value c.more-sum.result) in
    sum_more g.M.Lane.width xs ys c.args.width c.args.column n k (g.M.Lane.value c.loop-i.sum) (g.M.Lane.value c.more-sum.result) c.requires.small row
    (c.loop-i.invariant ∙ ap (λ (m : ℕ). sum_from (product_of (g.L.Lane.numbers c.args.xs.now) (g.L.Lane.numbers c.args.ys.now) c.args.width c.args.column) m (length c.args.xs.now)) next)
    (subst Q (sym y) (subst P (sym x) c.more-sum.ensures))
