use Rattle.std.proofs.Common.{sym, ap, ◌∙◌, subst}
use Rattle.apl_arrays.specs.Origins.{origin_number}
use Rattle.apl_defn.specs.Definitions.{Header}
use Rattle.apl_machine_state.specs.State.{with_function}
use Rattle.apl_machine.specs.Spaces.{Space, IsSound, state_of}
use Rattle.apl_machine.proofs.Changed.{define_sound, define_is}
use Rattle.apl_machine.specs.Worlds.{settings}
use Rattle.apl_machine.proofs.objects.define.Goals as goal

pub returns-clause-sound : goal.returns-clause-sound
returns-clause-sound c =
    let s : Space = record { maps = c.workspace.inside.names; kept = settings c.workspace.inside.stops c.workspace.inside.traces (origin_number c.workspace.inside.io); contexts = c.workspace.inside.contexts; output = c.workspace.inside.output.items } in
    subst IsSound (sym c.forget.ensures)
    (define_sound s c.function.new.self c.remove.new.self c.remove-2.new.self c.header.result.now.name c.in_ok-function.function (subst IsSound (sym c.workspace.view_is) c.requires.sound) c.in_ok-function-2.ensures.ok)

pub returns-clause-ok : goal.returns-clause-ok
returns-clause-ok c =
    let s : Space = record { maps = c.workspace.inside.names; kept = settings c.workspace.inside.stops c.workspace.inside.traces (origin_number c.workspace.inside.io); contexts = c.workspace.inside.contexts; output = c.workspace.inside.output.items } in
    ap state_of c.forget.ensures
    ∙ define_is s c.function.new.self c.remove.new.self c.remove-2.new.self c.header.result.now.name c.args.definition c.in_ok-function.function (subst IsSound (sym c.workspace.view_is) c.requires.sound) (ap (λ (h : Header). h.name) c.header.ensures.value) c.in_ok-function.ensures c.in_ok-function-2.ensures.ok c.remove.ensures c.remove-2.ensures
    ∙ ap (λ (x : Space). with_function c.args.definition (state_of x)) c.workspace.view_is
