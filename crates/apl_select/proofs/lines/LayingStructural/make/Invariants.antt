use Rattle.std.proofs.Common.{◌≡◌}
use Rattle.apl_select.specs.inside.Laying.{planes_of}
use Rattle.apl_select.specs.Lined.{item_or}
use Rattle.apl_select.proofs.lines.LayingStructural.make.Given as goal

abbrev pub invariant-loop-plane : goal.invariant-loop-plane
invariant-loop-plane g l = l.out.items ≡ planes_of (item_or l.fill l.items) l.fn.self.layout.length l.fn.self.layout.block l.self.places.now l.plane
