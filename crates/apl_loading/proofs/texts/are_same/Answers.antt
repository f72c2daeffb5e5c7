use Rattle.std.proofs.Common.{◌∙◌, sym}
use Rattle.std.specs.Cmp.{unsigned_Decides}
use Rattle.std.specs.Cmp.Lexicographic.{pointwise_decides}
use Rattle.apl_loading.proofs.texts.are_same.Goals as goal

pub returns : goal.returns
returns c =
    let d = pointwise_decides unsigned_Decides c.args.one.now c.args.other.now in
    (λ h. d.0 (sym c.eq.ensures ∙ h), λ e. c.eq.ensures ∙ d.1 e)
