use Rattle.std.proofs.Common.{◌≡◌, ◌%◌, ◌^◌, pos, Ok, FitsSigned, to_z, of_z, w64, ap, sym, ◌∙◌, arith, rules}
use Rattle.std.specs.Prelude.{bit_or}
use Rattle.std.proofs.lemmas.Int.{to_z-of_z}
use Rattle.apl_scalar.specs.Functions.{quotient}
use Rattle.apl_scalar.proofs.Exact.{no_low_l, no_low_r, reach_low, each_step}
use Rattle.apl_scalar.proofs.exact_quotients.fill_by.Goals as goal

pub loop-i-preserved : goal.loop-i-preserved
loop-i-preserved g c = λ l z.
    let s = c.args.by.shift in
    let gathered : bit_or c.loop-i.raised c.quotient_by-value.result.1 % 2 ^ s ≡ 0 = ap (λ n. n % 2 ^ s) (sym c.wider-raised.ensures.exact) ∙ z in
    let before = c.loop-i.invariant (omega (arith, l, c.wider-raised.ensures.x)) (no_low_l c.loop-i.raised c.quotient_by-value.result.1 s gathered) in
    let now = c.quotient_by-value.ensures (omega (arith, l, c.wider-raised.ensures.y)) (no_low_r c.loop-i.raised c.quotient_by-value.result.1 s gathered) in
    let fits : FitsSigned w64 c.quotient_by-value.result.0 = search rules in
    let element : FitsSigned w64 c.at.result = search rules in
    each_step (λ k v. quotient (g.X.Line.number c.args.x k) (pos c.args.divisor) ≡ Ok v) c.loop-i.i c.loop-i.out (to_z w64 (of_z w64 c.quotient_by-value.result.0)) (search rules) before
    (ap (λ x. quotient x (pos c.args.divisor)) (sym (to_z-of_z w64 c.at.result element ∙ c.at.ensures)) ∙ now ∙ ap (λ v. Ok v) (sym (to_z-of_z w64 c.quotient_by-value.result.0 fits)))

pub overflow_mul-by : goal.overflow_mul-by
overflow_mul-by g c = omega (arith, c.requires.by.reach, reach_low c.args.divisor c.args.by.shift c.args.by.half c.requires.by.whole c.requires.by.some c.requires.by.half)
