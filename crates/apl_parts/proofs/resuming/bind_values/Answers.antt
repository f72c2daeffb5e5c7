use Rattle.std.proofs.Common.{◌∙◌, map, sym, ap}
use Rattle.apl_machine_state.specs.Calls.{bound_to}
use Rattle.apl_names.specs.Maps.{with_local, with_locals}
use Rattle.apl_parts.proofs.Locals.{locals_pushed}
use Rattle.apl_parts.proofs.resuming.bind_values.Goals as goal

pub loop-local-preserved : goal.loop-local-preserved
loop-local-preserved c =
    let names = c.loop-local.names in
    let left = c.pop.new.self.items in
    let bound = c.in_ok-bind.ensures.ok in
    ap (with_locals (map (λ l. (l.0, bound_to l.1)) left)) (bound ∙ ap (λ b. with_local c.in-Some.local.0 b names) c.in_ok-binding.ensures)
    ∙ sym (locals_pushed (λ l. (l.0, bound_to l.1)) c.loop-local.values.items left c.in-Some.local names c.in-Some.ensures.items) ∙ c.loop-local.invariant
