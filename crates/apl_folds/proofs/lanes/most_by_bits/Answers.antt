use Rattle.std.proofs.Common.{pos, ◌≤◌, get_or, subst, sym, ◌∙◌, arith, rules, w64}
use Rattle.std.specs.Prelude.{unsigned_abs}
use Rattle.std.proofs.lemmas.Int.{to_z-of_z}
use mir.Val.{SFits}
use Rattle.apl_scalar.proofs.OfLanes.{number_of_item}
use Rattle.apl_folds.proofs.Told.{one_more}
use Rattle.apl_folds.proofs.lanes.most_by_bits.Goals as goal

pub loop-number-preserved : goal.loop-number-preserved
loop-number-preserved g c =
    let numbers = g.L.Lane.numbers c.args.numbers.now in
    let i = c.loop-number.number-index in
    let fits : SFits w64 c.wide.result = search rules in
    let item = number_of_item g.L.Lane.value g.L.Lane.numbers g.met.L.Lane.each c.args.numbers.now i c.number-item.result c.loop-number-test.true c.number-item.is in
    let most : unsigned_abs c.wide.result ≤ c.wider-bound.result = search (rules, c.wider-bound.ensures.y, to_z-of_z w64 c.wide.result fits) in
    one_more (λ k. unsigned_abs (get_or numbers k (pos 0)) ≤ c.wider-bound.result) i
    (subst (λ z. unsigned_abs z ≤ c.wider-bound.result) (sym (item ∙ sym c.wide.ensures.value)) most)
    (λ k h. omega (arith, c.loop-number.invariant k h, c.wider-bound.ensures.x))
