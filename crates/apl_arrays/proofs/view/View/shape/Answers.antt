use Rattle.std.proofs.Common.{length, ap, arith}
use Rattle.apl_arrays.proofs.Steps.{length-lengths}
use Rattle.apl_arrays.proofs.Formed.{array_shown}
use Rattle.apl_arrays.proofs.view.View.shape.Goals as goal

pub returns-clause-array : goal.returns-clause-array
returns-clause-array c =
    rw (← c.self.view_is) (array_shown _ c.self.inside.offset c.self.inside.axes.items (omega (arith, length-lengths c.self.inside.axes.items, ap length c.as_slice.ensures.value)) c.self.invariant)
