use Rattle.std.proofs.Common.{◌≢◌, IfErr, sym, subst}
use Rattle.apl_loading.specs.inside.Made.{RefusesPart}
use Rattle.apl_loading.specs.declared.error.LoadFault.TheVariants as fault
use Rattle.apl_loading.proofs.contexts.build.Goals as goal

pub returns-in-Call-clause-refused : goal.returns-in-Call-clause-refused
returns-in-Call-clause-refused c = subst (λ f. IfErr c.build_call.result (λ e. e ≢ fault.Memory → RefusesPart f e)) (sym c.in-Call.is) c.build_call.ensures.refused
