use Rattle.std.proofs.Common.{◌∙◌}
use Rattle.apl_arrays.specs.Left.{listed}
use Rattle.apl_arrays.specs.Ravels.{items_of}
use Rattle.apl_reshape.proofs.InRounds.{full_round, made_round, reshaped_as}
use Rattle.apl_reshape.proofs.shapes.reshape.Goals as goal

pub in_shape-requires-clause-full : goal.in_shape-requires-clause-full
in_shape-requires-clause-full c =
    full_round c.size.result (items_of c.in_ok-ravel.ravel) (listed c.items.result) c.as_slice.result.now c.in_ok-lengths.lengths.items c.as_slice-2.result.now
    (c.in_ok-ravel.ensures ∙ made_round c.size.result (listed c.items.result)) c.size.ensures c.as_slice.ensures.value c.as_slice-2.ensures.value

pub returns-clause-value : goal.returns-clause-value
returns-clause-value c =
    reshaped_as c.args.a.now c.args.b.now _ c.in_ok-lengths.lengths.items c.as_slice.result.now c.as_slice-2.result.now (items_of c.in_ok-ravel.ravel) (listed c.items.result) c.size.result
    c.in_ok-lengths.ensures c.as_slice.ensures.value c.as_slice-2.ensures.value c.items.ensures.value (c.in_ok-ravel.ensures ∙ made_round c.size.result (listed c.items.result)) c.size.ensures
    c.in_ok-in_shape.ensures.value
