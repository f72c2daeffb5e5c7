use Rattle.std.proofs.Common.{◌∙◌}
use Rattle.apl_names.specs.declared.binding.Binding.TheVariants.{Value}
use Rattle.apl_parts.specs.Restored.{variable_entry}
use Rattle.apl_parts.proofs.Objects.{assigned_single, one_put}
use Rattle.apl_parts.proofs.restoring.put_variables.Goals as goal

pub loop-variable-preserved : goal.loop-variable-preserved
loop-variable-preserved c =
    let before = c.loop-variable.invariant in
    let x = c.in-Some.variable in
    let put = one_put variable_entry c.loop-variable.variables.items c.pop.new.self.items x c.loop-variable.names c.assign.new.self c.in-Some.ensures.items (c.in_ok-assign.ensures.ok ∙ assigned_single x.0 (Value x.1) c.loop-variable.names before.single) in
    record { single = put.0; same = put.1 ∙ before.same }
