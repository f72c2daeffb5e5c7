use Rattle.std.proofs.Common.{ap, ◌∙◌, subst}
use Rattle.std.specs.Prelude.{◌≡◌, IfOk}
use Rattle.apl_names.specs.Maps.{IsMap, kinds_in, last_map}
use Rattle.apl_machine_state.specs.State.{State}
use Rattle.apl_machine.proofs.Erased.{globals_read}
use Rattle.apl_machine.proofs.Readers.{last_under}
use Rattle.apl_machine.proofs.machine.Machine.globals.Goals as goal

pub returns-clause-kinds : goal.returns-clause-kinds
returns-clause-kinds c = globals_read c.self.inside.workspace c.args.self.now c.globals.result c.self.invariant.sound c.self.view_is (subst (λ m. IfOk c.globals.result (λ v. v.items ≡ kinds_in (last_map m.workspace.maps))) c.self-inside.view_is c.globals.ensures.kinds)

pub returns-clause-ascend : goal.returns-clause-ascend
returns-clause-ascend c =
    let s = c.self.inside.workspace in
    subst IsMap (last_under s.maps s.contexts c.self.invariant.sound.contexts.as_many ∙ ap (λ (u : State). u.world.globals) c.self.view_is)
    (subst (λ m. IsMap (last_map m.workspace.maps)) c.self-inside.view_is c.globals.ensures.ascend)
