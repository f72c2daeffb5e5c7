use Rattle.std.proofs.Common.{◌≡◌, ◌*ℤ◌, ℤ, FitsSigned, ap, subst, sym, ◌∙◌, rules, w64}
use Rattle.std.proofs.lemmas.Int.{to_z-of_z}
use mir.Val.{SFits}
use Rattle.apl_arrays.proofs.Lanes.{low_here}
use Rattle.apl_operators.proofs.products.product.Goals as goal

pub returns : goal.returns
returns g c = λ fits.
    let z = c.args.x *ℤ g.L.Lane.value c.args.y in
    let fits_y : SFits w64 c.wide.result = search rules in
    let made : FitsSigned w64 (c.args.x *ℤ c.wide.result) → c.times.result ≡ c.args.x *ℤ c.wide.result = simp (to_z-of_z, c.ranges.x, fits_y) at c.times.ensures in
    let whole : FitsSigned w64 z = g.met.M.Lane.bounded z fits in
    let same : c.args.x *ℤ c.wide.result ≡ z = ap (λ (w : ℤ). c.args.x *ℤ w) c.wide.ensures.value in
    let P : ℤ → Type 0 = λ w. FitsSigned w64 w in
    low_here g.M.Lane.value g.M.Lane.width c.times.result z c.low.result (made (subst P (sym same) whole) ∙ same) whole c.low.ensures fits
