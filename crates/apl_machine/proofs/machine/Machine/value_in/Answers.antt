use Rattle.std.proofs.Common.{drop, sym, ap, ◌∙◌}
use Rattle.std.specs.Prelude.{option_copied}
use Rattle.apl_names.specs.Maps.{first_map, said, value_in}
use Rattle.apl_machine.proofs.Callers.{scope_read}
use Rattle.apl_machine.proofs.machine.Machine.value_in.Goals as goal

pub returns-in-Some : goal.returns-in-Some
returns-in-Some c =
    let found = sym (ap option_copied c.in-Some.is) ∙ c.in_scope.ensures ∙ ap (λ m. said (first_map (drop c.args.k m.workspace.maps)) c.args.name.now) c.self-inside.view_is in
    c.value_of.ensures ∙ ap value_in found ∙ scope_read c.self.inside.workspace c.args.self.now c.args.k c.args.name.now c.self.invariant.sound c.self.view_is

pub returns-in-None : goal.returns-in-None
returns-in-None c =
    let found = sym (ap option_copied c.in-None.is) ∙ c.in_scope.ensures ∙ ap (λ m. said (first_map (drop c.args.k m.workspace.maps)) c.args.name.now) c.self-inside.view_is in
    ap value_in found ∙ scope_read c.self.inside.workspace c.args.self.now c.args.k c.args.name.now c.self.invariant.sound c.self.view_is
