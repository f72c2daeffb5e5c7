use Rattle.std.proofs.Common.{◌∙◌, map, sym, ap}
use Rattle.apl_arrays.specs.Origins.{origin_number}
use Rattle.apl_machine_state.specs.Calls.{local_of}
use Rattle.apl_names.specs.Maps.{with_local, with_locals}
use Rattle.apl_parts.proofs.Locals.{beneath_pushed, locals_pushed}
use Rattle.apl_machine.specs.inside.Locals.{alone}
use Rattle.apl_machine.proofs.locals.bind_locals.Goals as goal

pub loop-local-preserved : goal.loop-local-preserved
loop-local-preserved c =
    let at_first = local_of (alone (origin_number c.args.origin)) in
    let last = c.in-Some.local.now in
    let prefix = c.in-Some.prefix.now in
    let names = c.loop-local.names in
    let bound = c.in_ok-bind.ensures.ok in (
      ap (with_locals (map at_first prefix)) (bound ∙ ap (λ e. with_local e.0 e.1 names) c.local_of.ensures)
          ∙ sym (locals_pushed at_first c.loop-local.left.now prefix last names c.in-Some.ensures.cases.0) ∙ c.loop-local.invariant.0,
      beneath_pushed c.args.names.now names c.bind.new.self _ _ c.loop-local.invariant.1 bound,
    )
