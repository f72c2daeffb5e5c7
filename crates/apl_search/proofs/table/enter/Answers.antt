use Rattle.std.proofs.Common.{rules, ◌≡◌, ◌-◌, ◌+◌, ◌+ℤ◌, ℕ, ℤ, pos, get_or, drop, subst, w64, ◌∙◌, SFits, arith}
use Rattle.std.proofs.lemmas.Int.{ints, to_z-of_z}
use Rattle.apl_arrays.specs.Numbers.{values}
use Rattle.apl_search.specs.inside.Tables.{AreFirsts, IsWithin}
use Rattle.apl_search.proofs.Tables.{entered}
use Rattle.apl_search.proofs.table.enter.Goals as goal

pub loop-place-preserved : goal.loop-place-preserved
loop-place-preserved c =
    let here : ℕ = c.loop-place.place - 1 in
    let next : c.loop-place.place ≡ here + 1 = omega arith in
    let P : ℕ → Type 0 = λ n. AreFirsts c.args.span.smallest c.loop-place.firsts n (drop n (values c.args.numbers)) in
    let number : ℤ = get_or (values c.args.numbers) here (pos 0) in
    let fits : SFits w64 c.at.result = search rules in
    let slot : c.args.span.smallest +ℤ pos c.slot.result ≡ number = c.slot.ensures ∙ to_z-of_z w64 c.at.result fits ∙ c.at.ensures in
    let within : IsWithin c.args.span number = c.requires.within here (pos 0) (omega arith) in
    entered c.args.span.smallest c.loop-place.firsts here c.slot.result (values c.args.numbers) (subst P next c.loop-place.invariant) (omega arith) (omega (arith, ints)) slot
