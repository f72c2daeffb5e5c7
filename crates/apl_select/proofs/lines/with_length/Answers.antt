use Rattle.std.proofs.Common.{ℕ, List, ap, ◌∙◌}
use Rattle.std.specs.Prelude.{slice_set}
use Rattle.apl_select.proofs.Laying.{set_axis}
use Rattle.apl_select.proofs.lines.with_length.Goals as goal

pub returns : goal.returns
returns c = ap (λ (l : List ℕ). slice_set l c.args.axis c.args.len) c.in_ok-lengths.ensures.items ∙ set_axis c.args.shape.now c.args.axis c.args.len
