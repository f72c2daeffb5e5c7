use Rattle.std.proofs.Common.{◌++◌, map, arith, sym, ap, ◌∙◌}
use Rattle.std.proofs.lemmas.List.{append-nil}
use Rattle.apl_arrays.specs.Left.{listed}
use Rattle.apl_format.specs.Display.{row_line, dropped}
use Rattle.apl_format.proofs.Rows.{rows_none, plane_step}
use Rattle.apl_format.proofs.lines.push_plane.Goals as goal

pub loop-init : goal.loop-init
loop-init c = record {
  place = omega arith;
  written = sym (ap (λ xs. c.args.lines.now.items ++ map (row_line c.args.widths.now) xs) (rows_none c.args.columns (dropped c.args.place (listed c.args.items))) ∙ append-nil c.args.lines.now.items);
}

pub loop-preserved : goal.loop-preserved
loop-preserved c = record {
  place = omega arith;
  written = plane_step (row_line c.args.widths.now) c.loop.counter c.args.columns c.args.place (listed c.args.items) c.args.lines.now.items c.loop.invariant.place c.loop.invariant.written c.in_ok-row_line.ensures c.in_ok-push.ensures.items;
}
