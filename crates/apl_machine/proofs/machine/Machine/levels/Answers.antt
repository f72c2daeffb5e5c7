use Rattle.std.proofs.Common.{subst}
use Rattle.std.specs.Prelude.{◌≡◌, IfOk}
use Rattle.apl_contexts.specs.Contexts.{levels_in}
use Rattle.apl_machine.proofs.Erased.{levels_read}
use Rattle.apl_machine.proofs.machine.Machine.levels.Goals as goal

pub returns : goal.returns
returns c = levels_read c.self.inside.workspace c.args.self.now c.levels.result c.self.view_is (subst (λ m. IfOk c.levels.result (λ v. v.items ≡ levels_in m.workspace.contexts)) c.self-inside.view_is c.levels.ensures)
