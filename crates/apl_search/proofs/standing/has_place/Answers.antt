use Rattle.std.proofs.Common.{◌≡◌, length, w64, nat_lt, ap, ◌∙◌, ℕ}
use mir.Val.{SFits}
use Rattle.std.proofs.lemmas.Int.{to_z-of_z}
use Rattle.std.specs.Ordering.{int_eq}
use Rattle.std.specs.List.{position_or_len}
use Rattle.apl_arrays.specs.Numbers.{values}
use Rattle.apl_search.proofs.Lookups.{any_by_place}
use Rattle.apl_search.proofs.standing.has_place.Goals as goal

pub returns : goal.returns
returns c =
    let fits : SFits w64 c.args.number = c.ranges.number in
    let value : c.first_place.result ≡ position_or_len (int_eq c.args.number) (values c.args.numbers) = simp to_z-of_z at c.first_place.ensures.value in
    ap (λ (n : ℕ). nat_lt c.first_place.result n) c.len.ensures
    ∙ ap (λ (n : ℕ). nat_lt n (length (values c.args.numbers))) value ∙ any_by_place (int_eq c.args.number) (values c.args.numbers)
