use Rattle.std.proofs.Common.{ℤ, List, length, get_or, pos, Ok, refl, ap, sym, ◌∙◌}
use Rattle.apl_arrays.proofs.Exits.{answers_along}
use Rattle.apl_arrays.specs.Numbers.{kept_values, values}
use Rattle.apl_scalar.specs.declared.function.Monadic.TheVariants as one
use Rattle.apl_scalar.specs.Functions.{monadic_of}
use Rattle.apl_scalar.specs.Operands.{shown}
use Rattle.apl_scalar.proofs.Alone.{itself, only_values}
use Rattle.apl_scalar.proofs.Whole.{all_values}
use Rattle.apl_scalar.proofs.function.Monadic.of_numbers.Goals as goal

pub returns-in_ok-to_vec-in-Plus : goal.returns-in_ok-to_vec-in-Plus
returns-in_ok-to_vec-in-Plus c =
    let zs : List ℤ = values c.args.numbers in
    all_values (λ k. monadic_of c.args.self (get_or zs k (pos 0))) zs (length zs) refl (λ k h. itself c.args.self (get_or zs k (pos 0)) c.in-Plus.is)
    ∙ ap (λ l. Ok l) (sym c.in_ok-to_vec-in-Plus.ensures)

pub returns-in-Minus : goal.returns-in-Minus
returns-in-Minus c =
    answers_along kept_values _ _ c.in_lanes.result
    (only_values c.args.self one.Minus (shown c.of_one-places.result.a) (shown c.of_one-places.result.b) (values c.args.numbers) c.of_one-places.result.count c.in-Minus.is c.of_one-places.ensures.a c.of_one-places.ensures.b c.of_one-places.ensures.count)
    c.in_lanes.ensures

pub returns-in-Times : goal.returns-in-Times
returns-in-Times c =
    answers_along kept_values _ _ c.in_lanes-in-Times.result
    (only_values c.args.self one.Times (shown c.of_one-places.result.a) (shown c.of_one-places.result.b) (values c.args.numbers) c.of_one-places.result.count c.in-Times.is c.of_one-places.ensures.a c.of_one-places.ensures.b c.of_one-places.ensures.count)
    c.in_lanes-in-Times.ensures

pub returns-in-Divide : goal.returns-in-Divide
returns-in-Divide c =
    answers_along kept_values _ _ c.in_wide.result
    (only_values c.args.self one.Divide (shown c.of_one-places.result.a) (shown c.of_one-places.result.b) (values c.args.numbers) c.of_one-places.result.count c.in-Divide.is c.of_one-places.ensures.a c.of_one-places.ensures.b c.of_one-places.ensures.count)
    c.in_wide.ensures

pub returns-in-Magnitude : goal.returns-in-Magnitude
returns-in-Magnitude c =
    answers_along kept_values _ _ c.in_lanes-in-Magnitude.result
    (only_values c.args.self one.Magnitude (shown c.of_one-places.result.a) (shown c.of_one-places.result.b) (values c.args.numbers) c.of_one-places.result.count c.in-Magnitude.is c.of_one-places.ensures.a c.of_one-places.ensures.b c.of_one-places.ensures.count)
    c.in_lanes-in-Magnitude.ensures

pub returns-in-Not : goal.returns-in-Not
returns-in-Not c =
    answers_along kept_values _ _ c.told.result
    (only_values c.args.self one.Not (shown c.of_one-places.result.a) (shown c.of_one-places.result.b) (values c.args.numbers) c.of_one-places.result.count c.in-Not.is c.of_one-places.ensures.a c.of_one-places.ensures.b c.of_one-places.ensures.count)
    c.told.ensures
