use Rattle.std.proofs.Common.{◌≡◌, ◌<◌, length, get_or, ap, ◌∙◌, subst, arith, FitsSigned, length-set}
use Rattle.apl_arrays.proofs.Lanes.{converted_more, low_here, number_among}
use Rattle.apl_arrays.proofs.squeeze.convert.Goals as goal

pub loop-k-preserved : goal.loop-k-preserved
loop-k-preserved g c =
    let value = g.L.Lane.value in
    let xs = c.args.items.now in
    let z = value (get_or xs c.loop-k.k c.index-items-k.result) in
    let same : value c.index-items-k.result ≡ z = ap value c.index-items-k.is in
    let fits : FitsSigned g.L.Lane.width z = subst (λ x. FitsSigned g.L.Lane.width x) same c.wide.ensures.fits in
    let there : c.loop-k.k < length xs = let l = c.loop-k-test.true in let e = c.requires.each in omega arith in
    let made = low_here g.M.Lane.value g.M.Lane.width c.wide.result z c.low.result (c.wide.ensures.value ∙ same) (g.met.L.Lane.bounded z fits) c.low.ensures
    (c.requires.fits z (number_among value g.L.Lane.numbers g.met.L.Lane.each xs c.loop-k.k c.index-items-k.result there) fits) in
    record {
      long = length-set c.loop-k.out c.loop-k.k c.low.result ∙ c.loop-k.invariant.long;
      made = converted_more value g.M.Lane.value xs c.loop-k.out c.loop-k.k c.index-items-k.result c.low.result there c.loop-k.invariant.long made c.loop-k.invariant.made;
    }
