use Rattle.std.proofs.Common.{sym, ap, subst, ◌∙◌}
use Rattle.apl_machine_state.specs.State.{State}
use Rattle.apl_session.specs.Defining.{closed}
use Rattle.apl_savable.specs.Reached.{IsReached}
use Rattle.apl_workspace.specs.Saved.{IsLoaded, settled}
use Rattle.apl_kept.proofs.Beginning.{closed_reached}
use Rattle.apl_kept.proofs.kept.Kept.save.Goals as goal

pub returns-in-Ok-clause-again : goal.returns-in-Ok-clause-again
returns-in-Ok-clause-again c =
    let reached = subst IsReached (sym c.machine.ensures) (closed_reached c.self.inside.session c.self.invariant) in
    subst (λ (s : State). IsLoaded c.in-Ok.bytes.items (settled s)) (c.machine.ensures ∙ ap closed c.self.view_is) (c.in-Ok.ensures.reached reached)
