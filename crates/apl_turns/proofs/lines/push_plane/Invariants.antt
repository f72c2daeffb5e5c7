use Rattle.std.proofs.Common.{◌≡◌, ◌*◌, ◌++◌, length, map, get_or}
use Rattle.std.specs.List.{range_with_len}
use Rattle.apl_turns.specs.inside.Lines.{source_in}
use Rattle.apl_turns.proofs.lines.push_plane.Given as goal

abbrev pub invariant-loop-row : goal.invariant-loop-row
invariant-loop-row g l = (d : g.row.T.Denot) →
    l.out.items ≡ l.fn.out.items ++ map (λ place. get_or l.plane (source_in l.rows (length l.shifts) (λ line. get_or l.shifts line 0) place) d) (range_with_len 0 (l.row * length l.shifts))
