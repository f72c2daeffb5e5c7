use Rattle.std.proofs.Common.{◌≡◌, take}
use Rattle.apl_select.specs.Indexing.{joined_shape}
use Rattle.apl_select.proofs.slots.joined_shape.Given as goal

abbrev pub invariant-loop-picked : goal.invariant-loop-picked
invariant-loop-picked l = l.shape.items ≡ joined_shape (take l.picked-index l.picks)
