use Rattle.std.proofs.Common.{◌≡◌, ap, sym, refl, ◌∙◌, arith, length, false}
use Rattle.std.specs.Prelude.{◌==◌}
use Rattle.std.proofs.lemmas.Bool.{eqb-false}
use Rattle.apl_arrays.specs.Left.{listed}
use Rattle.apl_arrays.specs.Numbers.{kept_values, values}
use Rattle.apl_arrays.proofs.Exits.{answers_along}
use Rattle.apl_arrays.specs.Cells.{Items, cells_of}
use Rattle.apl_scalar.proofs.Extension.{by_numbers, only_characters}
use Rattle.apl_scalar.proofs.apply.monadic_values.Goals as goal

pub returns-in-Nums : goal.returns-in-Nums
returns-in-Nums c =
    answers_along kept_values _ _ c.of_numbers.result
    (by_numbers c.args.function c.args.b.now (values c.in-Nums.numbers) _ c.items-items.ensures.full (rw c.in-Nums.is at (sym c.items-items.ensures.value)) refl)
    c.of_numbers.ensures

pub returns-else-is_empty : goal.returns-else-is_empty
returns-else-is_empty c =
    let empty : (length (cells_of (listed c.items-items.result)) == 0) ≡ false = sym c.is_empty.ensures ∙ c.if-is_empty.false in
    only_characters c.args.function c.args.b.now (rw (sym c.items-items.ensures.value, c.in-Chars.is) tt)
    (omega (arith, eqb-false (length (cells_of (listed c.items-items.result))) 0 empty, ap (λ (t : Items). length (cells_of t)) c.items-items.ensures.value, c.items-items.ensures.full))
