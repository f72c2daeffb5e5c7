use Rattle.std.proofs.Common.{◌≡◌, ◌+◌, ◌*◌, ◌%◌, ◌++◌, length, map, get_or}
use Rattle.std.specs.List.{range_with_len}
use Rattle.apl_turns.proofs.lines.push_row.Given as goal

abbrev pub invariant-loop-line : goal.invariant-loop-line
invariant-loop-line g l = (d : g.row.T.Denot) →
    l.out.items ≡ l.fn.out.items ++ map (λ line. get_or l.plane ((l.row + get_or l.shifts line 0) % l.rows * length l.shifts + line) d) (range_with_len 0 l.line)
