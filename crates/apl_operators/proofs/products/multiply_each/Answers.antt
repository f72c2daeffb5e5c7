use Rattle.std.proofs.Common.{◌≡◌, ◌*ℤ◌, ℤ, pos, FitsSigned, to_z, of_z, get_or, length, ap, sym, ◌∙◌, subst, rules, arith, w64}
use Rattle.std.proofs.lemmas.Int.{to_z-of_z}
use mir.Val.{SFits}
use Rattle.apl_scalar.specs.declared.function.Dyadic.TheVariants as two
use Rattle.apl_scalar.specs.Functions.{dyadic_of}
use Rattle.apl_scalar.proofs.OfLanes.{as_many, number_of_item}
use Rattle.apl_operators.specs.Places.{crossed}
use Rattle.apl_operators.proofs.InRows.{rows_step, rows_end, crossed_row}
use Rattle.apl_operators.proofs.SumsOfProducts.{product_held}
use Rattle.apl_operators.proofs.products.multiply_each.Goals as goal

pub push_products-requires-clause-fits : goal.push_products-requires-clause-fits
push_products-requires-clause-fits g c = λ k h.
    let fits : SFits w64 c.wide.result = search rules in
    let head : to_z w64 (of_z w64 c.wide.result) ≡ get_or (g.L.Lane.numbers c.args.xs.now) c.loop-r.r (pos 0) =
    to_z-of_z w64 c.wide.result fits ∙ c.wide.ensures.value ∙ sym (number_of_item g.L.Lane.value g.L.Lane.numbers g.met.L.Lane.each c.args.xs.now c.loop-r.r c.index-xs-r.result c.loop-r-test.true c.index-xs-r.is)
    in
    let P : ℤ → Type 0 = λ z. FitsSigned g.M.Lane.width (z *ℤ get_or (g.L.Lane.numbers c.args.ys.now) k (pos 0)) in
    subst P (sym head) (product_held g.M.Lane.width (g.L.Lane.numbers c.args.xs.now) (g.L.Lane.numbers c.args.ys.now) c.loop-r.r k c.requires.small)

pub loop-r-preserved : goal.loop-r-preserved
loop-r-preserved g c =
    let xs = g.L.Lane.numbers c.args.xs.now in
    let ys = g.L.Lane.numbers c.args.ys.now in
    let fits : SFits w64 c.wide.result = search rules in
    let head : to_z w64 (of_z w64 c.wide.result) ≡ get_or (g.L.Lane.numbers c.args.xs.now) c.loop-r.r (pos 0) =
    to_z-of_z w64 c.wide.result fits ∙ c.wide.ensures.value ∙ sym (number_of_item g.L.Lane.value g.L.Lane.numbers g.met.L.Lane.each c.args.xs.now c.loop-r.r c.index-xs-r.result c.loop-r-test.true c.index-xs-r.is)
    in
    let many : length xs ≡ length c.args.xs.now = as_many g.L.Lane.value g.L.Lane.numbers g.met.L.Lane.each c.args.xs.now in
    rows_step (crossed (dyadic_of two.Times) xs ys) (λ k. dyadic_of two.Times (to_z w64 (of_z w64 c.wide.result)) (get_or (g.L.Lane.numbers c.args.ys.now) k (pos 0))) (g.M.Lane.numbers c.loop-r.out.items) (g.M.Lane.numbers c.push_products.new.out.items)
    c.loop-r.r (length xs) (length ys) (omega arith)
    (λ q h. crossed_row (dyadic_of two.Times) (g.L.Lane.numbers c.args.xs.now) (g.L.Lane.numbers c.args.ys.now) c.loop-r.r q h ∙ ap (λ (x : ℤ). dyadic_of two.Times x (get_or (g.L.Lane.numbers c.args.ys.now) q (pos 0))) (sym head))
    c.in_ok-push_products.ensures
    ∙ c.loop-r.invariant

pub returns : goal.returns
returns g c =
    let xs = g.L.Lane.numbers c.args.xs.now in
    let ys = g.L.Lane.numbers c.args.ys.now in
    let many : length xs ≡ length c.args.xs.now = as_many g.L.Lane.value g.L.Lane.numbers g.met.L.Lane.each c.args.xs.now in
    sym c.loop-r.invariant ∙ rows_end (crossed (dyadic_of two.Times) xs ys) (g.M.Lane.numbers c.loop-r.out.items) c.loop-r.r (length xs) (length ys) (omega arith)
