use Rattle.std.proofs.Common.{length, ap, sym, ◌∙◌}
use Rattle.apl_arrays.specs.Cells.{Arr}
use Rattle.apl_arrays.proofs.Steps.{length-lengths}
use Rattle.apl_arrays.proofs.view.View.rank.Goals as goal

pub returns-clause-value : goal.returns-clause-value
returns-clause-value c = c.len.ensures.value ∙ sym (length-lengths c.self.inside.axes.items) ∙ ap (λ (a : Arr). length a.shape) c.self.view_is
