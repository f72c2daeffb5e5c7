use Rattle.std.proofs.Common.{ap, ◌∙◌}
use Rattle.apl_arrays.specs.Strides.{whole_axes}
use Rattle.apl_arrays.proofs.Whole.{view_whole, shown_whole}
use Rattle.apl_arrays.proofs.view.View.whole.Goals as goal

pub invariant_of-result : goal.invariant_of-result
invariant_of-result c =
    view_whole c.args.array.now.shape c.args.array.now.items _ _ (c.axes_of.ensures ∙ ap whole_axes c.shape.ensures.value) c.items.ensures.value c.shape.ensures.array

pub returns-clause-value : goal.returns-clause-value
returns-clause-value c =
    shown_whole c.args.array.now _ _ (c.axes_of.ensures ∙ ap whole_axes c.shape.ensures.value) c.items.ensures.value c.items.ensures.full
