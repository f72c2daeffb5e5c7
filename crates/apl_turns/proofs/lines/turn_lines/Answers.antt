use Rattle.std.proofs.Common.{◌≡◌, ◌+◌, ◌*◌, ◌<◌, ◌≤◌, [], length, map, get_or, arith, ap, sym, ◌∙◌}
use Rattle.std.specs.List.{range_with_len}
use Rattle.apl_turns.specs.inside.Lines.{source, source_in}
use Rattle.apl_turns.proofs.Blocks.{run_step, plane_by_lines, piece_fits, piece_length, piece_shift, some_width}
use Rattle.apl_turns.proofs.lines.turn_lines.Goals as goal

pub push_plane-requires-clause-below : goal.push_plane-requires-clause-below
push_plane-requires-clause-below g c =
    let e = c.args.extent in
    let each : c.loop-plane.plane * e.width + e.width ≤ length c.args.shifts.now = omega (arith, piece_fits c.loop-plane.plane e.planes e.width c.loop-plane-test.true, c.requires.each) in
    λ line l.
    rw (piece_shift c.args.shifts.now e.width c.loop-plane.plane line c.piece-in-loop-plane.result.now c.piece-in-loop-plane.ensures each (omega (arith, l, ap length c.piece-in-loop-plane.ensures, piece_length c.args.shifts.now c.loop-plane.plane e.width each)))
    (c.requires.below (c.loop-plane.plane * e.width + line))

pub loop-plane-preserved : goal.loop-plane-preserved
loop-plane-preserved g c =
    let e = c.args.extent in
    let fits : c.loop-plane.plane * (e.rows * e.width) + e.rows * e.width ≤ length c.args.raw.now = omega (arith, piece_fits c.loop-plane.plane e.planes (e.rows * e.width) c.loop-plane-test.true, c.requires.whole) in
    let each : c.loop-plane.plane * e.width + e.width ≤ length c.args.shifts.now = omega (arith, piece_fits c.loop-plane.plane e.planes e.width c.loop-plane-test.true, c.requires.each) in
    let some : 0 < e.rows = omega (arith, c.requires.below 0) in
    λ d.
    run_step (λ place. get_or c.args.raw.now (source e.rows e.width c.args.shifts.now place) d) [] c.loop-plane.out.items c.push_plane.new.out.items
    (map (λ place. get_or c.piece.result.now (source_in e.rows (length c.piece-in-loop-plane.result.now) (λ line. get_or c.piece-in-loop-plane.result.now line 0) place) d) (range_with_len 0 (length c.piece.result.now)))
    c.loop-plane.plane (e.rows * e.width) (c.loop-plane.invariant d) (c.in_ok-push_plane.ensures d)
    (plane_by_lines d c.args.raw.now c.args.shifts.now e.rows e.width c.loop-plane.plane c.piece.result.now c.piece-in-loop-plane.result.now c.piece.ensures c.piece-in-loop-plane.ensures some
    (some_width e.planes e.rows e.width (length c.args.raw.now) c.requires.whole c.requires.some) fits each)

pub returns : goal.returns
returns g c =
    let e = c.args.extent in
    let end : c.loop-plane.plane ≡ e.planes = omega arith in
    λ d. c.loop-plane.invariant d ∙ ap (λ n. map (λ place. get_or c.args.raw.now (source e.rows e.width c.args.shifts.now place) d) (range_with_len 0 n)) (ap (λ p. p * (e.rows * e.width)) end ∙ sym c.requires.whole)
