use Rattle.std.proofs.Common.{◌≡◌, ◌<◌, ◌*ℤ◌, ℕ, ℤ, FitsSigned, length, get_or, pos, ap, sym, ◌∙◌, subst, rules}
use Rattle.std.proofs.lemmas.Int.{to_z-of_z}
use Rattle.apl_scalar.proofs.Filling.{fill_step}
use Rattle.apl_scalar.proofs.OfLanes.{number_of_item}
use Rattle.apl_operators.proofs.products.multiply.Goals as goal

pub loop-k-preserved : goal.loop-k-preserved
loop-k-preserved g c =
    let k = c.loop-k.k in
    let z = c.args.x *ℤ get_or (g.L.Lane.numbers c.args.ys.now) k (pos 0) in
    let within : k < length c.loop-k.out = search rules in
    let beside : k < length c.args.ys.now = search rules in
    let y : g.L.Lane.value c.index-ys-k.result ≡ get_or (g.L.Lane.numbers c.args.ys.now) k (pos 0) = sym (number_of_item g.L.Lane.value g.L.Lane.numbers g.met.L.Lane.each c.args.ys.now k c.index-ys-k.result beside c.index-ys-k.is) in
    let made : FitsSigned g.M.Lane.width (c.args.x *ℤ g.L.Lane.value c.index-ys-k.result) → g.M.Lane.value c.product.result ≡ c.args.x *ℤ g.L.Lane.value c.index-ys-k.result = simp (to_z-of_z, c.ranges.x) at c.product.ensures in
    let same : c.args.x *ℤ g.L.Lane.value c.index-ys-k.result ≡ z = ap (λ (w : ℤ). c.args.x *ℤ w) y in
    let P : ℤ → Type 0 = λ w. FitsSigned g.M.Lane.width w in
    let before : (k : ℕ) → k < c.loop-k.k → get_or (g.M.Lane.numbers c.loop-k.out) k (pos 0) ≡ c.args.x *ℤ get_or (g.L.Lane.numbers c.args.ys.now) k (pos 0) = simp (to_z-of_z, c.ranges.x) at c.loop-k.invariant in
    simp (to_z-of_z, c.ranges.x)
    (fill_step g.M.Lane.value g.M.Lane.numbers g.met.M.Lane.each (λ k w. w ≡ c.args.x *ℤ get_or (g.L.Lane.numbers c.args.ys.now) k (pos 0)) c.loop-k.k c.loop-k.out c.product.result within before
    (made (subst P (sym same) (c.requires.fits k beside)) ∙ same))
