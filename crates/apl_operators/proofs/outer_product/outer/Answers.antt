use Rattle.std.proofs.Common.{◌≡◌, ◌++◌, ap, sym, ◌∙◌}
use Rattle.std.proofs.lemmas.List.{length-map}
use Rattle.apl_arrays.specs.declared.cell.Cell.TheVariants.{Num}
use Rattle.apl_arrays.specs.Numbers.{kept_values}
use Rattle.apl_arrays.specs.Index.{size_of, indices}
use Rattle.apl_arrays.proofs.InTurn.{length-all_ok}
use Rattle.apl_arrays.proofs.Order.{length-indices}
use Rattle.apl_operators.specs.Products.{paired}
use Rattle.apl_operators.proofs.outer_product.outer.Goals as goal

pub from_shape-requires : goal.from_shape-requires
from_shape-requires g c =
    let made : c.as_slice-4.result.now ≡ c.view-a.result.shape ++ c.view-b.result.shape = cc in
    length-map (kept_values c.in_ok-values.values) Num ∙ length-all_ok (paired c.args.function c.view-a.result c.view-b.result) (indices (c.view-a.result.shape ++ c.view-b.result.shape)) (kept_values c.in_ok-values.values) c.in_ok-values.ensures
    ∙ length-indices (c.view-a.result.shape ++ c.view-b.result.shape) ∙ ap size_of (sym made)
