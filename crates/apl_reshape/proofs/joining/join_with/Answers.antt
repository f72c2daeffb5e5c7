use Rattle.std.proofs.Common.{◌≡◌, ◌<◌, length, take, get_or, ap, sym, ◌∙◌, arith}
use Rattle.apl_arrays.specs.Cells.{Items, cells_of}
use Rattle.apl_arrays.specs.Index.{size_of}
use Rattle.apl_arrays.specs.Left.{listed}
use Rattle.apl_arrays.specs.Ravels.{items_of}
use Rattle.apl_reshape.specs.Catenate.{joined_shape, place_in}
use Rattle.apl_reshape.specs.inside.Rows.{both_of, is_scalar_shape}
use Rattle.apl_reshape.proofs.InBlocks.{has_rows, length-joined, made_items}
use Rattle.apl_reshape.proofs.Joined.{enough_items, joined_answer}
use Rattle.apl_reshape.proofs.JoinedRows.{same_before}
use Rattle.apl_reshape.proofs.joining.join_with.Goals as goal

pub ravel_joined-requires : goal.ravel_joined-requires
ravel_joined-requires c =
    let there : c.args.axis < length c.args.t.now = omega (arith, c.requires.within, c.requires.lengths) in
    let rows : c.rows_before.result ≡ size_of (take c.args.axis c.args.t.now) =
    c.rows_before.ensures ∙ ap size_of (same_before c.args.axis c.args.s.now c.args.t.now c.requires.within there c.requires.agree)
    in
    has_rows c.block_of.result c.block_of-2.result c.rows_before.result (listed c.items.result) (listed c.items-2.result) (both_of c.in_ok-pair.pair) c.in_ok-pair.ensures
    (enough_items c.args.axis c.rows_before.result c.shape.result.now c.args.a.now.shape c.args.b.now.shape c.args.s.now c.block_of.result (listed c.items.result) c.args.a.now.items
    c.block_of.ensures.is_scalar c.shape.ensures.value c.block_of.ensures.len c.rows_before.ensures c.requires.s c.items.ensures.full c.items.ensures.value)
    (enough_items c.args.axis c.rows_before.result c.shape-2.result.now c.args.b.now.shape c.args.a.now.shape c.args.t.now c.block_of-2.result (listed c.items-2.result) c.args.b.now.items
    c.block_of-2.ensures.is_scalar c.shape-2.ensures.value c.block_of-2.ensures.len rows c.requires.t c.items-2.ensures.full c.items-2.ensures.value)

pub in_shape-requires-clause-full : goal.in_shape-requires-clause-full
in_shape-requires-clause-full c =
    ap (λ (i : Items). length (cells_of i))
    (made_items c.args.axis c.rows_before.result c.args.a.now.shape c.args.b.now.shape c.args.s.now c.args.t.now (both_of c.in_ok-pair.pair) c.block_of.result c.block_of-2.result (items_of c.in_ok-ravel.ravel)
    c.requires.within c.requires.lengths c.requires.agree (c.block_of.ensures.is_scalar ∙ ap is_scalar_shape c.shape.ensures.value) c.block_of.ensures.len
    (c.block_of-2.ensures.is_scalar ∙ ap is_scalar_shape c.shape-2.ensures.value) c.block_of-2.ensures.len c.rows_before.ensures c.in_ok-ravel.ensures)
    ∙ length-joined c.args.axis (get_or c.args.s.now c.args.axis 0) (place_in c.args.a.now.shape c.args.s.now) (place_in c.args.b.now.shape c.args.t.now) (both_of c.in_ok-pair.pair) (joined_shape c.args.axis c.args.s.now c.args.t.now)
    ∙ ap size_of (sym (c.as_slice-3.ensures.value ∙ c.joined_lengths-shape.ensures))

pub returns-clause-value : goal.returns-clause-value
returns-clause-value c =
    joined_answer c.args.axis c.args.s.now c.args.t.now c.as_slice.result.now c.as_slice-3.result.now c.args.a.now c.args.b.now c.in_ok-in_shape.field-0
    (listed c.items.result) (listed c.items-2.result) (items_of c.in_ok-ravel.ravel) (both_of c.in_ok-pair.pair)
    c.in_ok-pair.ensures c.items.ensures.value c.items-2.ensures.value c.in_ok-within_limits.ensures (c.as_slice.ensures.value ∙ c.joined_lengths-shape.ensures) (c.as_slice-3.ensures.value ∙ c.joined_lengths-shape.ensures)
    (made_items c.args.axis c.rows_before.result c.args.a.now.shape c.args.b.now.shape c.args.s.now c.args.t.now (both_of c.in_ok-pair.pair) c.block_of.result c.block_of-2.result (items_of c.in_ok-ravel.ravel)
    c.requires.within c.requires.lengths c.requires.agree (c.block_of.ensures.is_scalar ∙ ap is_scalar_shape c.shape.ensures.value) c.block_of.ensures.len
    (c.block_of-2.ensures.is_scalar ∙ ap is_scalar_shape c.shape-2.ensures.value) c.block_of-2.ensures.len c.rows_before.ensures c.in_ok-ravel.ensures)
    c.in_ok-in_shape.ensures.value
