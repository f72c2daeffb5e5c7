use Rattle.std.proofs.Common.{ℤ, List, pos, take, to_z, of_z, w64, subst, arith, rules, FitsSigned}
use Rattle.std.specs.List.{All}
use Rattle.std.proofs.lemmas.Int.{ints}
use Rattle.std.proofs.lemmas.List.{take_all}
use Rattle.std.proofs.lemmas.List.Elements.{All-more, All-weaker}
use Rattle.apl_arrays.specs.Numbers.{values}
use Rattle.apl_search.specs.declared.table.Span.{Span}
use Rattle.apl_search.specs.inside.Tables.{IsWithin}
use Rattle.apl_search.proofs.table.Span.of.Goals as goal

pub loop-place-preserved : goal.loop-place-preserved
loop-place-preserved c =
    let narrower : Span = record { smallest = to_z w64 c.loop-place.smallest-bits; largest = to_z w64 c.loop-place.largest-bits } in
    let wider : Span = record { smallest = to_z w64 (of_z w64 c.min-smallest.result); largest = to_z w64 (of_z w64 c.max-largest.result) } in
    let fits : FitsSigned w64 c.at-number.result = search rules in
    All-more (IsWithin wider) (values c.args.numbers) c.loop-place.place (pos 0) (omega arith)
    (All-weaker (IsWithin narrower) (IsWithin wider) (λ z w. record { low = omega (arith, ints); high = omega (arith, ints) }) (take c.loop-place.place (values c.args.numbers)) c.loop-place.invariant)
    (record { low = omega (arith, ints); high = omega (arith, ints) })

pub returns : goal.returns
returns c =
    let P : List ℤ → Type 0 = λ zs. All (IsWithin (record { smallest = to_z w64 c.loop-place.smallest-bits; largest = to_z w64 c.loop-place.largest-bits })) zs in
    subst P (take_all c.loop-place.place (values c.args.numbers) (omega arith)) c.loop-place.invariant
