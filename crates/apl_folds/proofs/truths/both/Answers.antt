use Rattle.std.proofs.Common.{ℤ, FitsSigned, to_z, of_z, w64, ap, ◌∙◌, ◌≡◌, refl, rules}
use Rattle.std.specs.Int.{int_bit_or}
use Rattle.std.proofs.lemmas.Int.{to_z-of_z}
use Rattle.apl_arrays.proofs.Lanes.{low_here}
use Rattle.apl_folds.proofs.OrOfLanes.{both_truths}
use Rattle.apl_folds.proofs.truths.both.Goals as goal

pub returns : goal.returns
returns g c =
    let value = g.L.Lane.value in
    let width = g.L.Lane.width in
    let x : FitsSigned w64 (value c.args.x) = g.met.L.Lane.bounded (value c.args.x) c.wide.ensures.fits in
    let y : FitsSigned w64 (value c.args.y) = g.met.L.Lane.bounded (value c.args.y) c.wide-2.ensures.fits in
    let fits : FitsSigned w64 c.either.result = search rules in
    let same : (z r : ℤ) → r ≡ z → FitsSigned w64 z → to_z w64 (of_z w64 r) ≡ z = λ z r e f. ap (λ (s : ℤ). to_z w64 (of_z w64 s)) e ∙ to_z-of_z w64 z f in
    both_truths width (value c.args.x) (value c.args.y) c.either.result (value c.low.result) c.wide.ensures.fits c.wide-2.ensures.fits x y
    (c.either.ensures.exact ∙ ap (λ (s : ℤ). int_bit_or w64 s (to_z w64 (of_z w64 c.wide-2.result))) (same (value c.args.x) c.wide.result c.wide.ensures.value x)
    ∙ ap (int_bit_or w64 (value c.args.x)) (same (value c.args.y) c.wide-2.result c.wide-2.ensures.value y))
    (low_here value width c.either.result c.either.result c.low.result refl fits c.low.ensures)
