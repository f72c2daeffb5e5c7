use Rattle.std.proofs.Common.{◌≡◌, ◌+◌, ◌*◌, ◌≤◌, ◌++◌, [], length, map, get_or, take, drop, arith, ap, sym, ◌∙◌}
use Rattle.std.specs.List.{range_with_len}
use Rattle.apl_turns.specs.inside.Lines.{source}
use Rattle.apl_turns.proofs.Blocks.{run_step, plane_turned, piece_fits, some_width}
use Rattle.apl_turns.proofs.lines.turn_planes.Goals as goal

pub loop-plane-preserved : goal.loop-plane-preserved
loop-plane-preserved g c =
    let e = c.args.extent in
    let fits : c.loop-plane.plane * (e.rows * e.width) + e.rows * e.width ≤ length c.args.raw.now = omega (arith, piece_fits c.loop-plane.plane e.planes (e.rows * e.width) c.loop-plane-test.true, c.requires.whole) in
    λ d.
    run_step (λ place. get_or c.args.raw.now (source e.rows e.width c.args.shifts.now place) d) [] c.loop-plane.out.items c.push_turned.new.out.items
    (drop (c.shift_of_line.result * e.width) c.piece.result.now ++ take (c.shift_of_line.result * e.width) c.piece.result.now)
    c.loop-plane.plane (e.rows * e.width) (c.loop-plane.invariant d) c.in_ok-push_turned.ensures
    (plane_turned d c.args.raw.now c.args.shifts.now e.rows e.width c.loop-plane.plane c.piece.result.now (c.shift_of_line.result * e.width) c.piece.ensures (ap (λ k. k * e.width) c.shift_of_line.ensures) (c.requires.below c.loop-plane.plane)
    (some_width e.planes e.rows e.width (length c.args.raw.now) c.requires.whole c.requires.some) fits (c.requires.as_one c.loop-plane.plane))

pub returns : goal.returns
returns g c =
    let e = c.args.extent in
    let end : c.loop-plane.plane ≡ e.planes = omega arith in
    λ d. c.loop-plane.invariant d ∙ ap (λ n. map (λ place. get_or c.args.raw.now (source e.rows e.width c.args.shifts.now place) d) (range_with_len 0 n)) (ap (λ p. p * (e.rows * e.width)) end ∙ sym c.requires.whole)
