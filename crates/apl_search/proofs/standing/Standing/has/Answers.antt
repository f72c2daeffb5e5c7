use Rattle.std.proofs.Common.{ℤ, w64, ap, ◌∙◌, subst}
use mir.Val.{SFits}
use Rattle.std.proofs.lemmas.Int.{to_z-of_z}
use Rattle.std.specs.Ordering.{int_eq}
use Rattle.std.specs.List.{list_any}
use Rattle.apl_arrays.specs.Numbers.{values}
use Rattle.apl_search.specs.declared.standing.Standing.{Standing}
use Rattle.apl_search.specs.inside.Tables.{IsStandingOf, IsMarksOf}
use Rattle.apl_search.proofs.standing.Standing.has.Goals as goal

pub returns-in-Marked : goal.returns-in-Marked
returns-in-Marked c =
    let fits : SFits w64 c.args.number = c.ranges.number in
    let made : IsMarksOf c.in-Marked.marks (values c.args.numbers) = subst (λ (s : Standing). IsStandingOf s (values c.args.numbers)) c.in-Marked.is c.requires in
    c.has.ensures (values c.args.numbers) made ∙ ap (λ (z : ℤ). list_any (int_eq z) (values c.args.numbers)) (to_z-of_z w64 c.args.number fits)
