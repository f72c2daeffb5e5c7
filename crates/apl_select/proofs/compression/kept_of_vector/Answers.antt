use Rattle.std.proofs.Common.{length, ap, ◌∙◌, arith}
use Rattle.apl_arrays.specs.Cells.{Items, cells_of}
use Rattle.apl_arrays.specs.Left.{listed}
use Rattle.apl_arrays.specs.Numbers.{values}
use Rattle.apl_select.specs.inside.Masks.{kept_all}
use Rattle.apl_select.proofs.NextPlace.{kept_laid, length-kept, length-laid, vector_within}
use Rattle.apl_select.proofs.compression.kept_of_vector.Goals as goal

pub vector-requires : goal.vector-requires
vector-requires c =
    let bits = values c.args.bits in
    omega (
      arith,
      ap (λ (t : Items). length (cells_of t)) (c.in_ok-kept_elements.ensures ∙ kept_laid bits (listed c.args.items)),
      length-laid (listed c.args.items) (length bits) (kept_all bits),
      length-kept bits (length bits),
      c.requires.each,
      c.requires.few,
    )

pub returns : goal.returns
returns c =
    let bits = values c.args.bits in
    vector_within (listed c.args.items) (length bits) (kept_all bits) _ c.in_ok-vector.field-0 (length-kept bits (length bits)) (omega (arith, c.requires.each, c.requires.few))
    (c.in_ok-kept_elements.ensures ∙ kept_laid bits (listed c.args.items)) c.in_ok-vector.ensures
