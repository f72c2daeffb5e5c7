use Rattle.std.proofs.Common.{◌≡◌, ◌*◌, ◌+◌, ◌%◌, ◌^◌, Ok, FitsSigned, of_z, w64, ap, sym, ◌∙◌, rules}
use Rattle.std.proofs.lemmas.Int.{to_z-of_z}
use Rattle.apl_scalar.proofs.Exact.{exact}
use Rattle.apl_scalar.proofs.exact_quotients.quotient_by.Goals as goal

pub returns : goal.returns
returns c =
    let by = c.args.by in
    let r = c.requires.by in
    let bits : c.cast_unsigned.result ≡ of_z w64 c.args.x = simp (to_z-of_z, c.ranges.x) at c.cast_unsigned.ensures in
    let fits : FitsSigned w64 c.cast_signed.result = search rules in
    λ l z.
    exact c.args.x by.inverse by.shift by.half by.reach c.args.divisor ((c.cast_unsigned.result * by.inverse % 2 ^ 64 + by.reach) % 2 ^ 64) c.ranges.x r.inverse r.whole r.some r.half r.reach
    (ap (λ n. (n * by.inverse % 2 ^ 64 + by.reach) % 2 ^ 64) bits) l z
    ∙ ap (λ v. Ok v) (sym (to_z-of_z w64 c.cast_signed.result fits ∙ c.cast_signed.ensures))
