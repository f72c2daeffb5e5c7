use Rattle.std.proofs.Common.{◌≡◌, ◌+◌, ◌*◌, ◌%◌, ◌++◌, length, map, get_or, arith, ap, sym, ◌∙◌}
use Rattle.std.specs.List.{range_with_len}
use Rattle.apl_turns.specs.inside.Lines.{source_in}
use Rattle.apl_turns.proofs.Blocks.{run_step, plane_by_rows}
use Rattle.apl_turns.proofs.lines.push_plane.Goals as goal

pub loop-row-preserved : goal.loop-row-preserved
loop-row-preserved g c = λ d.
    run_step (λ place. get_or c.args.plane.now (source_in c.args.rows (length c.args.shifts.now) (λ line. get_or c.args.shifts.now line 0) place) d) c.args.out.now.items c.loop-row.out.items c.push_row.new.out.items
    (map (λ line. get_or c.args.plane.now ((c.loop-row.row + get_or c.args.shifts.now line 0) % c.args.rows * length c.args.shifts.now + line) d) (range_with_len 0 (length c.args.shifts.now)))
    c.loop-row.row (length c.args.shifts.now) (c.loop-row.invariant d) (c.in_ok-push_row.ensures d)
    (plane_by_rows d c.args.plane.now c.args.shifts.now c.args.rows c.loop-row.row)

pub returns : goal.returns
returns g c =
    let end : c.loop-row.row ≡ c.args.rows = omega arith in
    λ d. c.loop-row.invariant d
    ∙ ap (λ n. c.args.out.now.items ++ map (λ place. get_or c.args.plane.now (source_in c.args.rows (length c.args.shifts.now) (λ line. get_or c.args.shifts.now line 0) place) d) (range_with_len 0 n))
    (ap (λ r. r * length c.args.shifts.now) end ∙ sym c.requires.whole)
