use Rattle.std.proofs.Common.{ap, ◌∙◌}
use Rattle.std.specs.List.{remove}
use Rattle.apl_reshape.proofs.Joins.{remove_axis}
use Rattle.apl_reshape.proofs.beside.others.Goals as goal

pub returns : goal.returns
returns c = c.remove.ensures.items ∙ ap (λ l. remove l c.args.axis) c.same_lengths-lengths.ensures ∙ remove_axis c.args.s.now c.args.axis
