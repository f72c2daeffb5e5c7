use Rattle.std.proofs.lemmas.Int.{to_z-of_z}
use mir.Val.{SFits}
use Rattle.std.proofs.Common.{w64}
use Rattle.apl_search.proofs.index.Index.first_place.Goals as goal

pub returns-in-Close-clause-value : goal.returns-in-Close-clause-value
returns-in-Close-clause-value c =
    let fits : SFits w64 c.args.number = c.ranges.number in
    simp to_z-of_z at c.first_place.ensures.value

pub returns-in-Sorted-clause-value : goal.returns-in-Sorted-clause-value
returns-in-Sorted-clause-value c =
    let fits : SFits w64 c.args.number = c.ranges.number in
    simp to_z-of_z at c.first_place-in-Sorted.ensures.value

pub returns-in-Unlisted-clause-value : goal.returns-in-Unlisted-clause-value
returns-in-Unlisted-clause-value c =
    let fits : SFits w64 c.args.number = c.ranges.number in
    simp to_z-of_z at c.scanned.ensures.value
