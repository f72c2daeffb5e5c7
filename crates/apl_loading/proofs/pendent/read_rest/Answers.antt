use Rattle.std.proofs.lemmas.Result.{IfErr-weaker}
use Rattle.apl_loading.proofs.OneLine.{other_rest}
use Rattle.apl_loading.proofs.pendent.read_rest.Goals as goal

pub returns-clause-refused : goal.returns-clause-refused
returns-clause-refused c = IfErr-weaker c.bound_rest.result _ _ (λ x h m. ((h m).0, other_rest c.args.tokens.now c.args.field.now c.in_ok-classes.classes.items c.args.operands.items c.in_ok-classes.ensures.found (h m).1)) c.bound_rest.ensures.refused
