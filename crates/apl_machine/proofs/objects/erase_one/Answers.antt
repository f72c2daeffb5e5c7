use Rattle.std.proofs.Common.{sym, ap, ◌∙◌, subst}
use Rattle.apl_arrays.specs.Origins.{origin_number}
use Rattle.apl_machine_state.specs.Objects.{without_global}
use Rattle.apl_machine.specs.Spaces.{Space, IsSound, state_of}
use Rattle.apl_machine.specs.Worlds.{settings}
use Rattle.apl_machine.proofs.Erased.{erase_is, erase_sound}
use Rattle.apl_machine.proofs.objects.erase_one.Goals as goal

pub returns-clause-sound : goal.returns-clause-sound
returns-clause-sound c =
    let s : Space = record { maps = c.workspace.inside.names; kept = settings c.workspace.inside.stops c.workspace.inside.traces (origin_number c.workspace.inside.io); contexts = c.workspace.inside.contexts; output = c.workspace.inside.output.items } in
    erase_sound s c.erase.new.self c.remove.new.self c.remove-2.new.self c.args.name.now (subst IsSound (sym c.workspace.view_is) c.requires.sound) c.erase.ensures

pub returns-clause-erased : goal.returns-clause-erased
returns-clause-erased c =
    let s : Space = record { maps = c.workspace.inside.names; kept = settings c.workspace.inside.stops c.workspace.inside.traces (origin_number c.workspace.inside.io); contexts = c.workspace.inside.contexts; output = c.workspace.inside.output.items } in
    erase_is s c.erase.new.self c.remove.new.self c.remove-2.new.self c.args.name.now (subst IsSound (sym c.workspace.view_is) c.requires.sound) c.erase.ensures c.remove.ensures c.remove-2.ensures
    ∙ ap (λ (x : Space). without_global c.args.name.now (state_of x)) c.workspace.view_is
