use Rattle.std.proofs.Common.{None, sym, subst}
use Rattle.apl_saved.specs.Rules.{Ascend, function_names}
use Rattle.apl_loading.proofs.Ruled.{functions_ascend}
use Rattle.apl_loading.proofs.loading.read_parts.Goals as goal

pub read_variables-requires : goal.read_variables-requires
read_variables-requires c = subst (λ ws. Ascend (function_names ws)) (sym c.as_slice-2.ensures.value) (functions_ascend None c.as_slice.result.now c.in_ok-functions.functions.items c.in_ok-functions.ensures.found)
