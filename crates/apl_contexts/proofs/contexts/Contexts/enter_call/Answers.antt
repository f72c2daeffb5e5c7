use Rattle.std.proofs.Common.{reverse, take, arith}
use Rattle.std.proofs.lemmas.List.{length-reverse, length-take-le}
use Rattle.apl_contexts.proofs.Standing.{standing_few}
use Rattle.apl_contexts.proofs.contexts.Contexts.enter_call.Goals as goal

pub overflow_add-self-2 : goal.overflow_add-self-2
overflow_add-self-2 c =
    let stand = take c.self.inside.count c.self.inside.places.items in
    omega (arith, standing_few (reverse stand), length-reverse stand, length-take-le c.self.inside.count c.self.inside.places.items c.self.invariant.0, c.self.invariant.1)
