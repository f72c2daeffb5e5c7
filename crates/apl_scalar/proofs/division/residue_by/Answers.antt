use Rattle.std.proofs.Common.{◌≡◌, ◌<ℤ◌, ◌≤ℤ◌, ◌+ℤ◌, ℤ, pos, ap, sym, ◌∙◌, subst, arith, rules, FitsSigned}
use Rattle.std.specs.Prelude.{int_rem}
use Rattle.std.specs.Int.{w64}
use Rattle.std.proofs.lemmas.Int.{ints, to_z-of_z}
use Rattle.apl_scalar.proofs.Rests.{up_same, up_more, down_same, down_more, sum_up, sum_down}
use Rattle.apl_scalar.proofs.division.residue_by.Goals as goal

pub returns-then-rest-lt0 : goal.returns-then-rest-lt0
returns-then-rest-lt0 c =
    let rest : c.wrapping_rem-rest.result ≡ int_rem c.args.y c.args.x = simp (to_z-of_z, c.ranges.x, c.ranges.y) at c.wrapping_rem-rest.ensures in
    let fits : FitsSigned w64 c.wrapping_rem-rest.result = search rules in
    let positive : pos 0 <ℤ c.args.x = grind (arith, ints) in
    let below : c.wrapping_rem-rest.result <ℤ pos 0 = grind (arith, ints) in
    let P : ℤ → Type 0 = λ r. r <ℤ pos 0 in
    sum_up c.wrapping_rem-rest.result c.args.x fits c.ranges.x below positive
    ∙ ap (λ (r : ℤ). r +ℤ c.args.x) rest
    ∙ sym (up_more c.args.x c.args.y positive (subst P rest below))

pub returns-else-rest-lt0 : goal.returns-else-rest-lt0
returns-else-rest-lt0 c =
    let rest : c.wrapping_rem-rest.result ≡ int_rem c.args.y c.args.x = simp (to_z-of_z, c.ranges.x, c.ranges.y) at c.wrapping_rem-rest.ensures in
    let fits : FitsSigned w64 c.wrapping_rem-rest.result = search rules in
    let positive : pos 0 <ℤ c.args.x = grind (arith, ints) in
    let above : pos 0 ≤ℤ c.wrapping_rem-rest.result = grind (arith, ints) in
    let P : ℤ → Type 0 = λ r. pos 0 ≤ℤ r in
    to_z-of_z w64 c.wrapping_rem-rest.result fits ∙ rest ∙ sym (up_same c.args.x c.args.y positive (subst P rest above))

pub returns-then-rest-gt0 : goal.returns-then-rest-gt0
returns-then-rest-gt0 c =
    let rest : c.wrapping_rem-rest.result ≡ int_rem c.args.y c.args.x = simp (to_z-of_z, c.ranges.x, c.ranges.y) at c.wrapping_rem-rest.ensures in
    let fits : FitsSigned w64 c.wrapping_rem-rest.result = search rules in
    let negative : c.args.x <ℤ pos 0 = grind (arith, ints) in
    let above : pos 0 <ℤ c.wrapping_rem-rest.result = grind (arith, ints) in
    let P : ℤ → Type 0 = λ r. pos 0 <ℤ r in
    sum_down c.wrapping_rem-rest.result c.args.x fits c.ranges.x above negative
    ∙ ap (λ (r : ℤ). r +ℤ c.args.x) rest
    ∙ sym (down_more c.args.x c.args.y negative (subst P rest above))

pub returns-else-rest-gt0 : goal.returns-else-rest-gt0
returns-else-rest-gt0 c =
    let rest : c.wrapping_rem-rest.result ≡ int_rem c.args.y c.args.x = simp (to_z-of_z, c.ranges.x, c.ranges.y) at c.wrapping_rem-rest.ensures in
    let fits : FitsSigned w64 c.wrapping_rem-rest.result = search rules in
    let negative : c.args.x <ℤ pos 0 = grind (arith, ints) in
    let below : c.wrapping_rem-rest.result ≤ℤ pos 0 = grind (arith, ints) in
    let P : ℤ → Type 0 = λ r. r ≤ℤ pos 0 in
    to_z-of_z w64 c.wrapping_rem-rest.result fits ∙ rest ∙ sym (down_same c.args.x c.args.y negative (subst P rest below))
