use Rattle.std.proofs.Common.{Some, sym, ap, ◌∙◌}
use Rattle.std.specs.Prelude.{slice_get, option_copied, option_map}
use Rattle.apl_machine.specs.inside.Callers.{callers_in}
use Rattle.apl_machine.proofs.Callers.{call_read, seen_caller}
use Rattle.apl_machine.proofs.machine.Machine.call.Goals as goal

pub returns-in-Some : goal.returns-in-Some
returns-in-Some c =
    let at = sym (ap option_copied c.in-Some.is) ∙ c.call_at.ensures ∙ ap (λ m. slice_get (callers_in m.workspace.contexts) c.args.k) c.self-inside.view_is in
    ap Some c.seen.ensures ∙ ap (option_map seen_caller) at ∙ call_read c.self.inside.workspace c.args.self.now c.args.k c.self.view_is

pub returns-in-None : goal.returns-in-None
returns-in-None c =
    let at = sym (ap option_copied c.in-None.is) ∙ c.call_at.ensures ∙ ap (λ m. slice_get (callers_in m.workspace.contexts) c.args.k) c.self-inside.view_is in
    ap (option_map seen_caller) at ∙ call_read c.self.inside.workspace c.args.self.now c.args.k c.self.view_is
