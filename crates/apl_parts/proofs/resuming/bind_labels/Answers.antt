use Rattle.std.proofs.Common.{◌∙◌, ◌≤◌, map, sym, ap}
use Rattle.apl_machine_state.specs.Calls.{label_of}
use Rattle.apl_names.specs.Maps.{with_local, with_locals}
use Rattle.apl_parts.proofs.Locals.{all_split, beneath_pushed, locals_pushed}
use Rattle.apl_parts.proofs.resuming.bind_labels.Goals as goal

pub label_at-requires : goal.label_at-requires
label_at-requires c = (all_split (λ l. l.1 ≤ 999) c.loop-name.left.now c.in-Some.prefix.now c.in-Some.field-0-0.now c.in-Some.ensures.cases.0 c.loop-name.invariant.2).1

pub loop-name-preserved : goal.loop-name-preserved
loop-name-preserved c =
    let last = c.in-Some.field-0-0.now in
    let prefix = c.in-Some.prefix.now in
    let names = c.loop-name.names in
    let split = c.in-Some.ensures.cases.0 in
    let bound = c.in_ok-bind.ensures.ok in (
      ap (with_locals (map label_of prefix)) (bound ∙ ap (λ b. with_local last.0 b names) c.label_at.ensures) ∙ sym (locals_pushed label_of c.loop-name.left.now prefix last names split) ∙ c.loop-name.invariant.0,
      beneath_pushed c.args.names.now names c.bind.new.self _ _ c.loop-name.invariant.1 bound,
      (all_split (λ l. l.1 ≤ 999) c.loop-name.left.now prefix last split c.loop-name.invariant.2).0,
    )
