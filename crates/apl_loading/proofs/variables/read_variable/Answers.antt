use Rattle.std.proofs.Common.{Contains, refl, inl, inr}
use Rattle.apl_saved.specs.Rules.{function_names}
use Rattle.apl_loading.specs.Refusals.{IsBehind}
use Rattle.apl_loading.proofs.OneDefinition.{not_true}
use Rattle.apl_loading.proofs.OneVariable.{no_variable}
use Rattle.apl_loading.proofs.variables.read_variable.Goals as goal
use Rattle.apl_loading.proofs.variables.read_variable.Goals.{then-not-is_behind-via-then-not-is_behind, then-not-is_behind-via-else-not-is_behind+then-has_name}

pub returns-then-not-is_behind-clause-refused : goal.returns-then-not-is_behind-clause-refused
returns-then-not-is_behind-clause-refused c m =
    let names = function_names c.args.functions.now in
    let other : ¬ (IsBehind c.args.before c.in_ok-name.name × ¬ Contains names c.in_ok-name.name) = elim c.then-not-is_behind.branch [
      | then-not-is_behind-via-then-not-is_behind w ↦ λ h. not_true c.is_behind.result w.if-not-is_behind.true (c.is_behind.ensures.1 h.0)
      | then-not-is_behind-via-else-not-is_behind+then-has_name w ↦ λ h. h.1 (w.has_name.ensures.0 w.if-has_name.true)
    ] in
    let none = no_variable names c.args.before c.args.field.now c.in_ok-name.name c.in_ok-name.ensures.found.0 other in
    inr (c.is_small.ensures.0 c.if-not-is_small.false, inr ((c.in_ok-value.value, c.in_ok-value.ensures.found), inl (λ v. none v.0 v.1, refl)))
