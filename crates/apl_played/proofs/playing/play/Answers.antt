use Rattle.std.proofs.Common.{sym, subst}
use Rattle.std.proofs.lemmas.Result.{err_from_is_err_and}
use Rattle.apl_savable.specs.Savable.{IsSavable}
use Rattle.apl_played.proofs.playing.play.Goals as goal

pub file_of-requires-clause-savable : goal.file_of-requires-clause-savable
file_of-requires-clause-savable c = subst IsSavable (sym c.in_ok-after.ensures.ran.state) (c.lines_keep_savable.ensures.savable c.args.steps c.args.workspace.now c.in_ok-before.before c.args.lines.now c.in_ok-before.ensures.begun c.in_ok-before.ensures.idle).1

-- want of memory says nothing

pub returns-in_err-workspace-clause-refused : goal.returns-in_err-workspace-clause-refused
returns-in_err-workspace-clause-refused c =
    let p = err_from_is_err_and c.from_residual-in_err-workspace.result c.from_residual-in_err-workspace.ensures.1 in
    rw (p.1, p.2, c.in_err-workspace.ensures.memory) tt

pub returns-in_err-workspace-clause-complete : goal.returns-in_err-workspace-clause-complete
returns-in_err-workspace-clause-complete c s h =
    let p = err_from_is_err_and c.from_residual-in_err-workspace.result c.from_residual-in_err-workspace.ensures.1 in
    rw (p.1, p.2, c.in_err-workspace.ensures.memory) tt
