use Rattle.std.proofs.Common.{Some, None, sym, ap, ◌∙◌, subst}
use Rattle.std.specs.Prelude.{slice_get}
use Rattle.std.specs.Option.{option_copied, option_map}
use Rattle.apl_machine_state.specs.Frames.{IsFrame}
use Rattle.apl_frames.specs.Flat.{flat_rest}
use Rattle.apl_frames.proofs.Standing.{is_frame}
use Rattle.apl_machine.proofs.Readers.{rest_reads}
use Rattle.apl_machine.proofs.machine.Machine.frame.Goals as goal

pub returns-in_default-clause-none : goal.returns-in_default-clause-none
returns-in_default-clause-none c = rest_reads c.self.inside.workspace c.args.self.now c.args.k None c.self.view_is (sym (ap option_copied c.in_default.is) ∙ c.get.ensures ∙ ap (λ m. slice_get m.workspace.contexts c.args.k) c.self-inside.view_is)

pub returns-in_default-line-clause-none : goal.returns-in_default-line-clause-none
returns-in_default-line-clause-none c =
    rest_reads c.self.inside.workspace c.args.self.now c.args.k (Some c.in-Some.context.now) c.self.view_is (sym (ap option_copied c.in-Some.is) ∙ c.get.ensures ∙ ap (λ m. slice_get m.workspace.contexts c.args.k) c.self-inside.view_is)
    ∙ ap (option_map flat_rest) (sym c.line.ensures ∙ ap option_copied c.in_default-line.is)

pub returns-clause-some : goal.returns-clause-some
returns-clause-some c =
    let f = c.in-Some-line.line.now in
    let at = rest_reads c.self.inside.workspace c.args.self.now c.args.k (Some c.in-Some.context.now) c.self.view_is (sym (ap option_copied c.in-Some.is) ∙ c.get.ensures ∙ ap (λ m. slice_get m.workspace.contexts c.args.k) c.self-inside.view_is)
    ∙ ap (option_map flat_rest) (sym c.line.ensures ∙ ap option_copied c.in-Some-line.is) in
    let frame = is_frame f c.frame.ensures.stands in (
      flat_rest f,
      at,
      subst (λ x. IsFrame (flat_rest f) x c.frame.result.done c.frame.result.operands.now) (sym c.frame.ensures.code)
          (subst (λ x. IsFrame (flat_rest f) f.code x c.frame.result.operands.now) (sym c.frame.ensures.done)
          (subst (λ x. IsFrame (flat_rest f) f.code f.done x) (sym c.frame.ensures.operands) frame)),
    )
