use Rattle.std.proofs.Common.{◌≡◌, ◌*◌, map, get_or}
use Rattle.std.specs.List.{range_with_len}
use Rattle.apl_turns.specs.inside.Lines.{source}
use Rattle.apl_turns.proofs.lines.turn_planes.Given as goal

abbrev pub invariant-loop-plane : goal.invariant-loop-plane
invariant-loop-plane g l = (d : g.row.T.Denot) →
    l.out.items ≡ map (λ place. get_or l.raw (source l.extent.rows l.extent.width l.shifts place) d) (range_with_len 0 (l.plane * (l.extent.rows * l.extent.width)))
