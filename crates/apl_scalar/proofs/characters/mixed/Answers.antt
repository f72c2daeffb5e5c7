use Rattle.std.proofs.Common.{Ok, ◌∙◌, ap, false, rules}
use Rattle.apl_scalar.specs.Extension.{compared}
use Rattle.apl_scalar.proofs.Whole.{one_value}
use Rattle.apl_scalar.proofs.characters.mixed.Goals as goal

pub returns-in_ok-vec-in-Some : goal.returns-in_ok-vec-in-Some
returns-in_ok-vec-in-Some c =
    one_value (λ k. compared c.args.function false) c.in-Some.verdicts.other c.args.count (λ k. c.in-Some.ensures false) ∙ ap (λ l. Ok l) (search rules)
