use Rattle.std.proofs.Common.{rules, arith, ◌≡◌, ◌<◌, ◌^◌, ◌+ℤ◌, ℤ, FitsSigned, Ok, ap, sym, ◌∙◌, w64}
use Rattle.std.specs.Prelude.{unsigned_abs}
use Rattle.std.proofs.lemmas.Int.{to_z-of_z}
use mir.Val.{SFits}
use Rattle.apl_folds.proofs.Totals.{small_block}
use Rattle.apl_folds.proofs.sums.sum_block.Goals as goal

pub returns-then-unsigned_abs-lt4611686018427387904 : goal.returns-then-unsigned_abs-lt4611686018427387904
returns-then-unsigned_abs-lt4611686018427387904 c =
    λ rest e.
    let near : unsigned_abs c.args.known < 2 ^ 62 = omega (arith, (simp (to_z-of_z, c.ranges.known) at c.unsigned_abs.ensures.value)) in
    let small = c.sum_small-sum.ensures c.if-bound-lt4503599627370496.true in
    let fits : SFits w64 c.add.result = search rules in
    let fits_sum : SFits w64 c.sum_small-sum.result.0 = search rules in
    let added : FitsSigned w64 (c.args.known +ℤ c.sum_small-sum.result.0) → c.add.result ≡ c.args.known +ℤ c.sum_small-sum.result.0 = simp (to_z-of_z, c.ranges.known, fits_sum) at c.add.ensures in
    small_block c.args.numbers.now rest c.args.known c.sum_small-sum.result.0 c.add.result small c.requires near added e
    ∙ ap (λ (z : ℤ). Ok z) (sym (to_z-of_z w64 c.add.result fits))
