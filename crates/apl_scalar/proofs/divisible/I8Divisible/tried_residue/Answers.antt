use Rattle.std.proofs.Common.{◌≡◌, ◌+◌, ◌*◌, FitsSigned, ℤ, to_z, of_z, w8, w64, ap, ◌∙◌, arith, rules}
use Rattle.std.proofs.lemmas.Int.{to_z-of_z}
use Rattle.apl_scalar.specs.inside.Turns.{turned}
use Rattle.apl_scalar.proofs.Inverses.{rest_after}
use Rattle.apl_scalar.proofs.divisible.I8Divisible.tried_residue.Goals as goal

pub turned_back-left-requires-clause-rest : goal.turned_back-left-requires-clause-rest
turned_back-left-requires-clause-rest c =
    let by = c.divided-rest in
    let fits : FitsSigned w64 c.args.y = search rules in
    let wide = λ (z : ℤ) (e : z ≡ to_z w8 (of_z w8 c.args.y)). ap (λ z. to_z w64 (of_z w64 z)) (e ∙ to_z-of_z w8 c.args.y c.ranges.y) ∙ to_z-of_z w64 c.args.y fits in
    let number : to_z w64 (of_z w64 c.wide-2.result) ≡ c.args.y = wide c.wide-2.result c.wide-2.ensures.value in
    let up : c.turned_up.result ≡ turned c.args.y = c.turned_up.ensures ∙ ap turned (wide c.wide.result c.wide.ensures.value) in
    let whole : turned c.args.y ≡ by.result.1 + by.result.0 * c.some_divisor-divisor.result = omega (arith, by.ensures.whole, up) in
    rw (c.from-2.ensures, c.from.ensures, number) (rest_after (turned c.args.y) by.result.0 c.some_divisor-divisor.result by.result.1 whole by.ensures.rest)
