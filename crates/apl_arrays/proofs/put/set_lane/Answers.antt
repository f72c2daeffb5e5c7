use Rattle.std.proofs.Common.{◌∙◌, w64}
use Rattle.std.proofs.lemmas.Int.{to_z-of_z}
use Rattle.apl_arrays.proofs.Lanes.{numbers_set}
use Rattle.apl_arrays.proofs.put.set_lane.Goals as goal

pub returns-in-Some-clause-value : goal.returns-in-Some-clause-value
returns-in-Some-clause-value g c =
    numbers_set g.L.Lane.value g.L.Lane.numbers g.met.L.Lane.each c.args.out.now c.args.place c.in-Some.item c.args.number
    (c.in-Some.ensures.value ∙ to_z-of_z w64 c.args.number c.ranges.number)
