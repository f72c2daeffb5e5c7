use Rattle.std.proofs.Common.{arith}
use Rattle.apl_arrays.specs.Left.{listed}
use Rattle.apl_format.specs.Display.{row_line, joined, planes}
use Rattle.apl_format.proofs.Rows.{planes_step}
use Rattle.apl_format.proofs.lines.plane_lines.Goals as goal

pub loop-plane-init : goal.loop-plane-init
unfolding joined planes
loop-plane-init c = record { place = omega arith; written = c.in_ok-lines.ensures.items }

pub loop-plane-preserved : goal.loop-plane-preserved
loop-plane-preserved c = record {
  place = omega arith;
  written = planes_step (row_line c.args.widths.now) c.loop-plane.plane c.args.height c.args.columns (listed c.args.items) c.loop-plane.invariant.place c.loop-plane.invariant.written c.in_ok-push_gap.ensures c.in_ok-push_plane.ensures;
}
