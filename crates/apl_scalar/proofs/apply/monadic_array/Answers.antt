use Rattle.std.proofs.Common.{◌∙◌}
use Rattle.std.proofs.lemmas.List.{length-map}
use Rattle.apl_arrays.specs.declared.cell.Cell.TheVariants.{Num}
use Rattle.apl_arrays.specs.Numbers.{kept_values}
use Rattle.apl_arrays.proofs.InTurn.{length-all_ok}
use Rattle.apl_arrays.proofs.Order.{length-indices}
use Rattle.apl_scalar.proofs.apply.monadic_array.Goals as goal

pub with_ravel-requires : goal.with_ravel-requires
with_ravel-requires c =
    length-map (kept_values c.in_ok-numbers.numbers) Num ∙ length-all_ok _ _ (kept_values c.in_ok-numbers.numbers) c.in_ok-numbers.ensures ∙ length-indices c.args.b.now.shape
