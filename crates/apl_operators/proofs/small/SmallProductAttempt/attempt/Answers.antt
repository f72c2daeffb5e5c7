use Rattle.std.proofs.Common.{rules, ◌≡◌, ◌↔◌, ◌<◌, ◌^◌, ◌*ℤ◌, ℤ, FitsSigned, Ok, ap, sym, ◌∙◌, w64}
use Rattle.std.specs.Int.{w32}
use Rattle.std.proofs.lemmas.Int.{to_z-of_z}
use mir.Val.{SFits}
use Rattle.apl_operators.proofs.SmallNumbers.{small_product, both_small}
use Rattle.apl_operators.proofs.small.SmallProductAttempt.attempt.Goals as goal

pub returns-clause-found : goal.returns-clause-found
returns-clause-found c =
    let fits_flag : SFits w64 c.flag.result = search rules in
    let low_x : c.spread.result < 2 ^ 32 ↔ FitsSigned w32 c.args.x = simp (to_z-of_z, c.ranges.x) at c.spread.ensures in
    let low_y : c.spread-2.result < 2 ^ 32 ↔ FitsSigned w32 c.args.y = simp (to_z-of_z, c.ranges.y) at c.spread-2.ensures in
    simp (to_z-of_z, fits_flag) (both_small c.args.x c.args.y c.flag.result c.spread.result c.spread-2.result c.wider.result low_x low_y c.wider.ensures.exact c.flag.ensures)

pub returns-clause-value : goal.returns-clause-value
returns-clause-value c =
    let found = returns-clause-found c in
    λ h.
    let fits : SFits w64 c.times.result = search rules in
    let made : FitsSigned w64 (c.args.x *ℤ c.args.y) → c.times.result ≡ c.args.x *ℤ c.args.y = simp (to_z-of_z, c.ranges.x, c.ranges.y) at c.times.ensures in
    small_product c.args.x c.args.y c.times.result made (found.0 h)
    ∙ ap (λ (z : ℤ). Ok z) (sym (to_z-of_z w64 c.times.result fits))
