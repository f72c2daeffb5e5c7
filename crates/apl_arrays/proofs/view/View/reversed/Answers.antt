use Rattle.std.proofs.Common.{arith}
use Rattle.apl_arrays.proofs.Steps.{no_axis}
use Rattle.apl_arrays.proofs.Moves.{turned_back, axis_within, slice_within, set_in, view_reversed, shown_reversed}
use Rattle.apl_arrays.proofs.view.View.reversed.Goals as goal

pub offset_bounds-as_slice-axis : goal.offset_bounds-as_slice-axis
offset_bounds-as_slice-axis c = omega (arith, slice_within _ c.self.inside.offset c.args.axis c.self.inside.axes.items c.as_slice.result.now c.args.self.now c.self.view_is c.requires c.as_slice.ensures.value)

pub bounds-as_slice-axis : goal.bounds-as_slice-axis
bounds-as_slice-axis c = slice_within _ c.self.inside.offset c.args.axis c.self.inside.axes.items c.as_slice.result.now c.args.self.now c.self.view_is c.requires c.as_slice.ensures.value

pub replaced-requires-clause-within : goal.replaced-requires-clause-within
replaced-requires-clause-within c = slice_within _ c.self.inside.offset c.args.axis c.self.inside.axes.items c.as_slice-2.result.now c.args.self.now c.self.view_is c.requires c.as_slice-2.ensures.value

pub invariant_of-result : goal.invariant_of-result
invariant_of-result c =
    view_reversed _ c.self.inside.offset c.self.inside.axes.items c.replaced.result.items c.args.axis no_axis
    (axis_within _ c.self.inside.offset c.args.axis c.self.inside.axes.items c.args.self.now c.self.view_is c.requires)
    (set_in turned_back c.self.inside.axes.items c.as_slice.result.now c.as_slice-2.result.now c.replaced.result.items c.args.axis no_axis c.as_slice.ensures.value c.as_slice-2.ensures.value c.replaced.ensures) c.self.invariant

pub returns : goal.returns
returns c =
    shown_reversed _ c.self.inside.offset c.self.inside.axes.items c.replaced.result.items c.args.axis no_axis c.args.self.now
    (axis_within _ c.self.inside.offset c.args.axis c.self.inside.axes.items c.args.self.now c.self.view_is c.requires)
    (set_in turned_back c.self.inside.axes.items c.as_slice.result.now c.as_slice-2.result.now c.replaced.result.items c.args.axis no_axis c.as_slice.ensures.value c.as_slice-2.ensures.value c.replaced.ensures) c.self.view_is
