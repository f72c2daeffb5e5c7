use Rattle.std.proofs.Common.{◌+◌, length, arith, sym, ap, ◌∙◌}
use Rattle.apl_arrays.specs.Cells.{Arr}
use Rattle.apl_arrays.specs.Strides.{reach_of}
use Rattle.apl_arrays.specs.inside.Joins.{turned_skip}
use Rattle.apl_arrays.proofs.Steps.{length-lengths, reach_up}
use Rattle.apl_arrays.proofs.Joining.{view_turned, shown_turned, skip_turned}
use Rattle.apl_arrays.proofs.view.View.turned.Goals as goal

pub turn-turned-requires-clause-each : goal.turn-turned-requires-clause-each
turn-turned-requires-clause-each c =
    omega (arith, c.requires.each, ap (λ (a : Arr). length a.shape) c.self.view_is, length-lengths c.self.inside.axes.items, ap length c.as_slice.ensures.value)

pub turn-turned-requires-clause-within : goal.turn-turned-requires-clause-within
turn-turned-requires-clause-within c = λ k d l.
    omega (arith, c.requires.within k d l, ap (λ (a : Arr). length a.shape) c.self.view_is, length-lengths c.self.inside.axes.items, ap length c.as_slice.ensures.value)

pub turn-turned-requires-clause-near : goal.turn-turned-requires-clause-near
turn-turned-requires-clause-near c =
    omega (arith, c.self.invariant.near, reach_up 0 c.self.inside.offset c.self.inside.axes.items (omega arith), ap (reach_of 0) c.as_slice.ensures.value)

pub overflow_add-result : goal.overflow_add-result
overflow_add-result c =
    omega (arith, c.self.invariant.near, c.turn-turned.ensures.skip, ap (turned_skip c.args.axes.now) c.as_slice.ensures.value, skip_turned c.args.axes.now c.self.inside.axes.items c.self.inside.offset)

pub invariant_of-result : goal.invariant_of-result
invariant_of-result c =
    view_turned _ c.self.inside.offset (c.self.inside.offset + c.turn-turned.result.1) c.self.inside.axes.items c.turn-turned.result.0.items c.as_slice.result.now c.args.axes.now
    (c.requires.each ∙ sym (ap (λ (a : Arr). length a.shape) c.self.view_is)) c.as_slice.ensures.value c.turn-turned.ensures.axes (ap (λ s. c.self.inside.offset + s) c.turn-turned.ensures.skip) c.self.invariant

pub returns : goal.returns
returns c =
    shown_turned _ c.self.inside.offset (c.self.inside.offset + c.turn-turned.result.1) c.self.inside.axes.items c.turn-turned.result.0.items c.as_slice.result.now c.args.axes.now c.args.self.now
    (c.requires.each ∙ sym (ap (λ (a : Arr). length a.shape) c.self.view_is)) c.as_slice.ensures.value c.turn-turned.ensures.axes (ap (λ s. c.self.inside.offset + s) c.turn-turned.ensures.skip) c.self.view_is
