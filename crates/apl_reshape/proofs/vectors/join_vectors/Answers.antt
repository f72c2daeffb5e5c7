use Rattle.std.proofs.Common.{ap, length, arith}
use Rattle.apl_arrays.specs.Cells.{Items, cells_of}
use Rattle.apl_arrays.specs.Left.{listed}
use Rattle.apl_arrays.specs.Ravels.{items_of}
use Rattle.apl_reshape.specs.inside.Rows.{both_of}
use Rattle.apl_reshape.proofs.InBlocks.{has_rows}
use Rattle.apl_reshape.proofs.InVector.{appended_count, joined_as_vector, one_row, row_needed}
use Rattle.apl_reshape.proofs.vectors.join_vectors.Goals as goal

pub ravel_joined-requires : goal.ravel_joined-requires
ravel_joined-requires c =
    has_rows c.all_in_a_row.result c.all_in_a_row-2.result 1 (listed c.items-first.result) (listed c.items-second.result) (both_of c.in_ok-pair.pair) c.in_ok-pair.ensures
    (row_needed c.all_in_a_row.result c.len-3.result _ c.all_in_a_row.ensures c.len-3.ensures) (row_needed c.all_in_a_row-2.result c.len-4.result _ c.all_in_a_row-2.ensures c.len-4.ensures)

pub in_shape-requires-clause-full : goal.in_shape-requires-clause-full
in_shape-requires-clause-full c =
    let made = one_row c.all_in_a_row.result c.all_in_a_row-2.result (listed c.items-first.result) (listed c.items-second.result) (items_of c.in_ok-ravel.ravel) (both_of c.in_ok-pair.pair) c.len-3.result c.len-4.result
    c.in_ok-pair.ensures c.all_in_a_row.ensures c.all_in_a_row-2.ensures c.len-3.ensures c.len-4.ensures c.in_ok-ravel.ensures in
    omega (
      arith,
      ap (λ (t : Items). length (cells_of t)) made,
      appended_count (listed c.items-first.result) (listed c.items-second.result) (both_of c.in_ok-pair.pair) c.in_ok-pair.ensures,
      c.len.ensures,
      c.len-2.ensures,
    )

pub returns-clause-value : goal.returns-clause-value
returns-clause-value c =
    let made = one_row c.all_in_a_row.result c.all_in_a_row-2.result (listed c.items-first.result) (listed c.items-second.result) (items_of c.in_ok-ravel.ravel) (both_of c.in_ok-pair.pair) c.len-3.result c.len-4.result
    c.in_ok-pair.ensures c.all_in_a_row.ensures c.all_in_a_row-2.ensures c.len-3.ensures c.len-4.ensures c.in_ok-ravel.ensures in
    joined_as_vector c.args.a.now c.args.b.now c.in_ok-in_shape.field-0 (listed c.items-first.result) (listed c.items-second.result) (items_of c.in_ok-ravel.ravel) (both_of c.in_ok-pair.pair) c.len.result c.len-2.result
    c.in_ok-pair.ensures c.items-first.ensures.value c.items-second.ensures.value c.len.ensures c.len-2.ensures c.in_ok-within_limits.ensures made c.in_ok-in_shape.ensures.value
