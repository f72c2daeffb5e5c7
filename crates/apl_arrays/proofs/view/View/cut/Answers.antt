use Rattle.std.proofs.Common.{◌+◌, get_or, arith, ap, ◌∙◌}
use Rattle.apl_arrays.specs.declared.axis.Axis.{Axis}
use Rattle.apl_arrays.proofs.Steps.{no_axis, near_in, get_or-lengths}
use Rattle.apl_arrays.proofs.Moves.{cut_axis, cut_skip, axis_within, slice_within, length_within, set_in, view_cut, shown_cut, skip_near}
use Rattle.apl_arrays.proofs.view.View.cut.Goals as goal

pub offset_bounds-as_slice-axis : goal.offset_bounds-as_slice-axis
offset_bounds-as_slice-axis c = omega (arith, slice_within _ c.self.inside.offset c.args.axis c.self.inside.axes.items c.as_slice.result.now c.args.self.now c.self.view_is c.requires.axis c.as_slice.ensures.value)

pub bounds-as_slice-axis : goal.bounds-as_slice-axis
bounds-as_slice-axis c = slice_within _ c.self.inside.offset c.args.axis c.self.inside.axes.items c.as_slice.result.now c.args.self.now c.self.view_is c.requires.axis c.as_slice.ensures.value

pub replaced-requires-clause-within : goal.replaced-requires-clause-within
replaced-requires-clause-within c = slice_within _ c.self.inside.offset c.args.axis c.self.inside.axes.items c.as_slice-2.result.now c.args.self.now c.self.view_is c.requires.axis c.as_slice-2.ensures.value

pub skip-requires : goal.skip-requires
skip-requires c =
    let h = axis_within _ c.self.inside.offset c.args.axis c.self.inside.axes.items c.args.self.now c.self.view_is c.requires.axis in
    let l = length_within _ c.self.inside.offset c.args.axis (c.args.from + c.args.len) c.self.inside.axes.items c.args.self.now c.self.view_is c.requires.within in
    record {
      within = rw (c.as_slice.ensures.value) (omega (arith, get_or-lengths c.self.inside.axes.items c.args.axis no_axis h));
      near = rw (c.as_slice.ensures.value) (near_in c.self.inside.axes.items c.args.axis c.self.inside.offset _ no_axis h c.self.invariant.near);
    }

pub overflow_add-result : goal.overflow_add-result
overflow_add-result c =
    omega (
      arith,
      c.skip.ensures,
      ap (λ l. cut_skip (get_or l c.args.axis no_axis) c.args.from c.args.len) c.as_slice.ensures.value,
      skip_near c.self.inside.axes.items no_axis c.args.axis c.args.from c.args.len c.self.inside.offset _
          (axis_within _ c.self.inside.offset c.args.axis c.self.inside.axes.items c.args.self.now c.self.view_is c.requires.axis)
          (length_within _ c.self.inside.offset c.args.axis (c.args.from + c.args.len) c.self.inside.axes.items c.args.self.now c.self.view_is c.requires.within) c.self.invariant.near,
    )

pub invariant_of-result : goal.invariant_of-result
invariant_of-result c =
    view_cut _ c.self.inside.offset (c.self.inside.offset + c.skip.result) c.self.inside.axes.items c.replaced.result.items c.args.axis c.args.from c.args.len no_axis
    (axis_within _ c.self.inside.offset c.args.axis c.self.inside.axes.items c.args.self.now c.self.view_is c.requires.axis)
    (length_within _ c.self.inside.offset c.args.axis (c.args.from + c.args.len) c.self.inside.axes.items c.args.self.now c.self.view_is c.requires.within)
    (set_in (λ (a : Axis). cut_axis a c.args.len) c.self.inside.axes.items c.as_slice.result.now c.as_slice-2.result.now c.replaced.result.items c.args.axis no_axis c.as_slice.ensures.value c.as_slice-2.ensures.value c.replaced.ensures)
    (ap (λ s. c.self.inside.offset + s) (c.skip.ensures ∙ ap (λ l. cut_skip (get_or l c.args.axis no_axis) c.args.from c.args.len) c.as_slice.ensures.value))
    c.self.invariant

pub returns : goal.returns
returns c =
    shown_cut _ c.self.inside.offset (c.self.inside.offset + c.skip.result) c.self.inside.axes.items c.replaced.result.items c.args.axis c.args.from c.args.len no_axis c.args.self.now
    (axis_within _ c.self.inside.offset c.args.axis c.self.inside.axes.items c.args.self.now c.self.view_is c.requires.axis)
    (length_within _ c.self.inside.offset c.args.axis (c.args.from + c.args.len) c.self.inside.axes.items c.args.self.now c.self.view_is c.requires.within)
    (set_in (λ (a : Axis). cut_axis a c.args.len) c.self.inside.axes.items c.as_slice.result.now c.as_slice-2.result.now c.replaced.result.items c.args.axis no_axis c.as_slice.ensures.value c.as_slice-2.ensures.value c.replaced.ensures)
    (ap (λ s. c.self.inside.offset + s) (c.skip.ensures ∙ ap (λ l. cut_skip (get_or l c.args.axis no_axis) c.args.from c.args.len) c.as_slice.ensures.value))
    c.self.view_is
