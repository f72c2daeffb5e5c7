use Rattle.std.proofs.Common.{[], Ok, ◌∙◌, ap, sym, rules}
use Rattle.apl_folds.specs.Folds.{folded}
use Rattle.apl_scalar.proofs.Whole.{one_value}
use Rattle.apl_operators.proofs.inner_product.identities.Goals as goal

pub returns : goal.returns
returns c = one_value (λ k. folded c.args.function []) c.in_ok-identity.identity c.args.count (λ k. sym c.in_ok-identity.ensures) ∙ ap (λ l. Ok l) (search rules)
