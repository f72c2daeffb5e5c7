use Rattle.std.proofs.Common.{◌≡◌, ◌<◌, length, get_or, ap, ◌∙◌, subst, FitsSigned}
use Rattle.apl_arrays.proofs.Lanes.{written_more, low_here, number_among}
use Rattle.apl_arrays.proofs.put.write_lane.Goals as goal

pub loop-k-preserved : goal.loop-k-preserved
loop-k-preserved g c =
    let other = g.M.Lane.value in
    let ys = c.args.items.now in
    let j = c.serving-source.result in
    let item = c.index-items-source.result in
    let z = other (get_or ys j item) in
    let same : other item ≡ z = ap other c.index-items-source.is in
    let fits : FitsSigned g.M.Lane.width z = subst (λ x. FitsSigned g.M.Lane.width x) same c.wide.ensures.fits in
    let there : j < length ys = rw (c.serving-source.ensures) (c.requires.enough c.loop-k.k c.loop-k-test.true) in
    let put = low_here g.L.Lane.value g.L.Lane.width c.wide.result z c.low.result (c.wide.ensures.value ∙ same) (g.met.M.Lane.bounded z fits) c.low.ensures
    (c.requires.fits z (number_among other g.M.Lane.numbers g.met.M.Lane.each ys j item there) fits) in
    written_more g.L.Lane.value other g.M.Lane.numbers g.met.M.Lane.each (g.L.Lane.numbers c.args.out.now) c.loop-k.out c.args.places.now ys c.loop-k.k j item c.low.result
    c.serving-source.ensures there put c.loop-k.invariant
