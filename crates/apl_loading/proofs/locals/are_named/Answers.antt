use Rattle.apl_loading.specs.inside.Made.{IsNamedBy}
use Rattle.apl_loading.proofs.Lists.{pair_length}
use Rattle.apl_loading.proofs.OneDefinition.{no_truth}
use Rattle.apl_loading.proofs.locals.are_named.Goals as goal

pub returns-then-fields-names-clause-same : goal.returns-then-fields-names-clause-same
returns-then-fields-names-clause-same c = (λ t. absurd (no_truth t), λ h. absurd (c.if-fields-names.true (pair_length IsNamedBy c.args.fields.now c.args.names.now h)))
