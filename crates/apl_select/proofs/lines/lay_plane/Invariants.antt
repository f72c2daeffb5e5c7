use Rattle.std.proofs.Common.{◌≡◌, ◌++◌, take}
use Rattle.apl_select.specs.inside.Laying.{plane_of}
use Rattle.apl_select.specs.Lined.{item_or}
use Rattle.apl_select.proofs.lines.lay_plane.Given as goal

abbrev pub invariant-loop-place : goal.invariant-loop-place
invariant-loop-place g l = l.out.items ≡ l.fn.out.items ++ plane_of (item_or l.fill l.raw) l.first l.block (take l.place-index l.places)
