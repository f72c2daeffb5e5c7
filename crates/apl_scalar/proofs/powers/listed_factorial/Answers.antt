use Rattle.std.proofs.Common.{Ok, ap, ◌∙◌, arith}
use Rattle.apl_scalar.proofs.Growth.{factorial_small, factorials-fit}
use Rattle.apl_scalar.proofs.powers.listed_factorial.Goals as goal

pub returns : goal.returns
returns c = factorial_small c.args.n (omega arith) ∙ ap (λ z. Ok z) (factorials-fit c.args.n (omega arith))
