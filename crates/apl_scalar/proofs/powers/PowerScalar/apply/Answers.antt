use Rattle.std.proofs.Common.{◌≡◌, ◌≤ℤ◌, ◌<ℤ◌, ℤ, pos, negsuc, of_z, ap, sym, ◌∙◌, arith}
use Rattle.std.specs.Int.{w64}
use Rattle.std.proofs.lemmas.Int.{ints, to_z-of_z}
use Rattle.apl_scalar.specs.Functions.{power}
use Rattle.apl_scalar.proofs.Growth.{power_one, power_even, power_odd, even_rest, odd_rest, power_negative, power_of_zero, power_of_zero_to_zero, power_large, power_by}
use Rattle.apl_scalar.proofs.powers.PowerScalar.apply.Goals as goal

pub returns-then-x-eq1 : goal.returns-then-x-eq1
returns-then-x-eq1 c =
    let x : c.args.x ≡ pos 1 = omega (arith, ints) in
    sym (ap (λ (z : ℤ). power z c.args.y) x ∙ power_one c.args.y)

pub returns-then-y-eq0 : goal.returns-then-y-eq0
returns-then-y-eq0 c =
    let x : c.args.x ≡ negsuc 0 = omega (arith, ints) in
    sym (ap (λ (z : ℤ). power z c.args.y) x ∙ power_even c.args.y (even_rest c.args.y (simp (to_z-of_z, c.ranges.y) at c.if-y-eq0.true)))

pub returns-else-y-eq0 : goal.returns-else-y-eq0
returns-else-y-eq0 c =
    let x : c.args.x ≡ negsuc 0 = omega (arith, ints) in
    sym (ap (λ (z : ℤ). power z c.args.y) x ∙ power_odd c.args.y (odd_rest c.args.y (simp (to_z-of_z, c.ranges.y) at c.if-y-eq0.false)))

pub returns-then-y-lt0 : goal.returns-then-y-lt0
returns-then-y-lt0 c =
    let negative : c.args.y <ℤ pos 0 = grind (arith, ints) in
    sym (power_negative c.args.x c.args.y (λ e. c.if-x-eq1.false (ap (of_z w64) e)) (λ e. c.if-x-eqminus1.false (ap (of_z w64) e)) negative)

pub returns-then-y-eq0-2 : goal.returns-then-y-eq0-2
returns-then-y-eq0-2 c =
    let x : c.args.x ≡ pos 0 = omega (arith, ints) in
    let y : c.args.y ≡ pos 0 = omega (arith, ints) in
    sym (ap (λ (z : ℤ). power z c.args.y) x ∙ ap (power (pos 0)) y ∙ power_of_zero_to_zero)

pub returns-else-y-eq0-2 : goal.returns-else-y-eq0-2
returns-else-y-eq0-2 c =
    let x : c.args.x ≡ pos 0 = omega (arith, ints) in
    let y : pos 0 <ℤ c.args.y = grind (arith, ints) in
    sym (ap (λ (z : ℤ). power z c.args.y) x ∙ power_of_zero c.args.y y)

pub returns-then-y-ge64 : goal.returns-then-y-ge64
returns-then-y-ge64 c =
    let many : pos 64 ≤ℤ c.args.y = grind (arith, ints) in
    sym (power_large c.args.x c.args.y (λ e. c.if-x-eq0.false (ap (of_z w64) e)) (λ e. c.if-x-eq1.false (ap (of_z w64) e)) (λ e. c.if-x-eqminus1.false (ap (of_z w64) e)) many)

pub returns : goal.returns
returns c =
    let positive : pos 0 ≤ℤ c.args.y = grind (arith, ints) in
    simp (to_z-of_z, c.ranges.x, c.ranges.y) at c.tested_power.ensures ∙ sym (power_by c.args.x c.args.y positive)
