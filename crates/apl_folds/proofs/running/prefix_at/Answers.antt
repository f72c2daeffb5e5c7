use Rattle.std.proofs.Common.{◌<◌, ◌≤◌, ◌-◌, ◌*◌, ℕ, ℤ, length, Ok, ap, ◌∙◌, arith}
use Rattle.std.proofs.Math.Nat.{mul-le-mul_right}
use Rattle.apl_folds.specs.inside.Prefixes.{index_along}
use Rattle.apl_folds.proofs.ByPlaces.{index_low}
use Rattle.apl_scalar.proofs.OfLanes.{as_many, number_of_item}
use Rattle.apl_folds.proofs.Runs.{begun, gone}
use Rattle.apl_folds.proofs.running.prefix_at.Goals as goal

pub returns-then-index-eq0 : goal.returns-then-index-eq0
returns-then-index-eq0 g c =
    let zs = g.L.Lane.numbers c.args.numbers.now in
    let within : c.args.at < length zs = omega (arith, c.requires.within, as_many g.L.Lane.value g.L.Lane.numbers g.met.L.Lane.each c.args.numbers.now) in
    begun g.R.Running.meaning g.R.Running.room zs c.args.axis c.args.at (g.L.Lane.value c.index-numbers-at.result) (g.M.Lane.value c.first.result) c.requires.whole c.requires.room within (c.requires.index ∙ c.if-index-eq0.true)
    (number_of_item g.L.Lane.value g.L.Lane.numbers g.met.L.Lane.each c.args.numbers.now c.args.at c.index-numbers-at.result c.requires.within c.index-numbers-at.is) c.first.ensures

pub returns-else-index-eq0 : goal.returns-else-index-eq0
returns-else-index-eq0 g c =
    let zs = g.L.Lane.numbers c.args.numbers.now in
    let at = c.args.at in
    let axis = c.args.axis in
    let q : ℕ = at - axis.up in
    let within : at < length zs = omega (arith, c.requires.within, as_many g.L.Lane.value g.L.Lane.numbers g.met.L.Lane.each c.args.numbers.now) in
    let later : 0 < index_along axis at = omega (arith, c.requires.index, c.if-index-eq0.false) in
    let low : 1 * axis.up ≤ index_along axis at * axis.up = mul-le-mul_right axis.up later in
    let far : axis.up ≤ at = omega (arith, low, index_low axis at) in
    let there : q < length c.args.out.now = omega (arith, c.requires.size, c.requires.within) in
    gone g.R.Running.meaning g.R.Running.room zs axis q at (g.L.Lane.value c.index-numbers-at-else-index-eq0.result) (g.M.Lane.value c.index-out-at.result) (g.M.Lane.value c.then.result) c.requires.whole c.requires.room within
    (omega arith) later
    (number_of_item g.L.Lane.value g.L.Lane.numbers g.met.L.Lane.each c.args.numbers.now at c.index-numbers-at-else-index-eq0.result c.requires.within c.index-numbers-at-else-index-eq0.is)
    (c.requires.so_far q (omega (arith, c.requires.whole.apart)) ∙ ap (λ (z : ℤ). Ok z) (number_of_item g.M.Lane.value g.M.Lane.numbers g.met.M.Lane.each c.args.out.now q c.index-out-at.result there c.index-out-at.is)) c.then.ensures
