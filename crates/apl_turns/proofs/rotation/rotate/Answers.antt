use Rattle.std.proofs.Common.{◌≡◌, ℕ, length, Ok, Option, Some, ap, sym, ◌∙◌}
use Rattle.apl_arrays.specs.Along.{axis_along}
use Rattle.apl_arrays.specs.Cells.{Items, cells_of}
use Rattle.apl_arrays.specs.Checks.{numbers_of}
use Rattle.apl_arrays.specs.Index.{size_of}
use Rattle.apl_arrays.specs.Numbers.{values}
use Rattle.apl_arrays.specs.Origins.{origin_number}
use Rattle.apl_turns.specs.Turns.{fits_lines}
use Rattle.apl_turns.proofs.Named.{axis_within}
use Rattle.apl_turns.proofs.Rotated.{fit_count, count_of_numbers, rotated_by, turned_by_lines}
use Rattle.apl_turns.proofs.rotation.rotate.Goals as goal

pub turn_array-requires-clause-each : goal.turn_array-requires-clause-each
turn_array-requires-clause-each c =
    let fits : fits_lines c.args.a.now c.args.b.now (Some c.in-Some.axis) ≡ Ok tt = rw c.in-Some.is at (sym c.in_ok-fits_lines.ensures) in
    let count : length (values c.in_ok-numbers.numbers) ≡ size_of c.args.a.now.shape = count_of_numbers _ (values c.in_ok-numbers.numbers) c.in_ok-numbers.ensures ∙ ap (λ (t : Items). length (cells_of t)) c.items.ensures.value ∙ c.items.ensures.full in
    λ ne. fit_count c.args.a.now c.args.b.now c.in-Some.axis (length (values c.in_ok-numbers.numbers)) fits count ne

pub returns-in_ok-turn_array-in-Some-clause-value : goal.returns-in_ok-turn_array-in-Some-clause-value
returns-in_ok-turn_array-in-Some-clause-value c =
    let fits : fits_lines c.args.a.now c.args.b.now (Some c.in-Some.axis) ≡ Ok tt = rw c.in-Some.is at (sym c.in_ok-fits_lines.ensures) in
    let count : length (values c.in_ok-numbers.numbers) ≡ size_of c.args.a.now.shape = count_of_numbers _ (values c.in_ok-numbers.numbers) c.in_ok-numbers.ensures ∙ ap (λ (t : Items). length (cells_of t)) c.items.ensures.value ∙ c.items.ensures.full in
    let along : axis_along c.args.along (length c.args.b.now.shape) (origin_number c.args.origin) ≡ Ok (Some c.in-Some.axis) =
    ap (λ n. axis_along c.args.along n (origin_number c.args.origin)) (sym c.rank.ensures.value) ∙ sym c.in_ok-axis.ensures ∙ ap (λ (x : Option ℕ). Ok x) c.in-Some.is
    in
    let numbers : numbers_of c.args.a.now.items ≡ Ok (values c.in_ok-numbers.numbers) = ap numbers_of (sym c.items.ensures.value) ∙ c.in_ok-numbers.ensures in
    let within = axis_within c.args.along (length c.args.b.now.shape) (origin_number c.args.origin) c.in-Some.axis along in
    rotated_by c.args.along (origin_number c.args.origin) c.args.a.now c.args.b.now c.in_ok-turn_array-in-Some.field-0 (Some c.in-Some.axis) (values c.in_ok-numbers.numbers) along fits numbers
    (turned_by_lines c.args.a.now c.args.b.now (values c.in_ok-numbers.numbers) c.in-Some.axis within c.in_ok-turn_array-in-Some.ensures.full fits count ∙ sym c.in_ok-turn_array-in-Some.ensures.turned)
