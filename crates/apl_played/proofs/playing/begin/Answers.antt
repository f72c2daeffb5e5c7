use Rattle.std.proofs.Common.{◌≡◌, false, length, ◌==◌}
use Rattle.apl_machine_state.specs.State.{State}
use Rattle.apl_played.proofs.Beginning.{loaded-begins, memory-refused}
use Rattle.apl_played.proofs.playing.begin.Goals as goal

pub returns-in_err-load-clause-complete : goal.returns-in_err-load-clause-complete
returns-in_err-load-clause-complete c s h =
    let some : (length c.args.workspace.now == 0) ≡ false = cc in
    memory-refused (λ (m : State). m ≡ s) c.in_err-load.field-0.0 c.from_residual.result c.from_residual.ensures.1
    (c.in_err-load.ensures.complete s (loaded-begins c.args.workspace.now s some h))

pub returns-clause-complete : goal.returns-clause-complete
returns-clause-complete c s h =
    let some : (length c.args.workspace.now == 0) ≡ false = cc in
    c.in_ok-load.ensures.complete s (loaded-begins c.args.workspace.now s some h)
