use Rattle.std.proofs.Common.{◌≡◌, ◌+◌, ◌*◌, ◌%◌, ◌<◌, ◌++◌, length, map, get_or, arith, ap, ◌∙◌}
use Rattle.std.specs.List.{range_with_len}
use Rattle.std.proofs.lemmas.List.{get_or_default}
use Rattle.std.proofs.lemmas.Nat.{mod_below}
use Rattle.apl_turns.proofs.Blocks.{push_step, in_plane}
use Rattle.apl_turns.proofs.lines.push_row.Goals as goal

pub loop-line-preserved : goal.loop-line-preserved
loop-line-preserved g c =
    let from : c.wrapped-from.result < c.args.rows = omega (arith, c.wrapped-from.ensures, mod_below (c.args.row + get_or c.args.shifts.now c.loop-line.line 0) c.args.rows (omega (arith, c.requires.within))) in
    let below : c.wrapped-from.result * length c.args.shifts.now + c.loop-line.line < length c.args.plane.now = omega (arith, c.requires.whole, in_plane c.wrapped-from.result c.loop-line.line c.args.rows (length c.args.shifts.now) from c.loop-line-test.true) in
    λ d.
    push_step (λ line. get_or c.args.plane.now ((c.args.row + get_or c.args.shifts.now line 0) % c.args.rows * length c.args.shifts.now + line) d) c.args.out.now.items c.loop-line.out.items c.push.new.self.items c.index-plane-from.result c.loop-line.line
    (c.loop-line.invariant d) c.in_ok-push.ensures.items
    (c.index-plane-from.is
    ∙ get_or_default c.args.plane.now (c.wrapped-from.result * length c.args.shifts.now + c.loop-line.line) c.index-plane-from.result d below
    ∙ ap (λ k. get_or c.args.plane.now (k * length c.args.shifts.now + c.loop-line.line) d) c.wrapped-from.ensures)

pub returns : goal.returns
returns g c =
    let end : c.loop-line.line ≡ length c.args.shifts.now = omega arith in
    λ d. c.loop-line.invariant d
    ∙ ap (λ n. c.args.out.now.items ++ map (λ line. get_or c.args.plane.now ((c.args.row + get_or c.args.shifts.now line 0) % c.args.rows * length c.args.shifts.now + line) d) (range_with_len 0 n)) end
