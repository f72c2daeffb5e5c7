use Rattle.std.proofs.Common.{ap, sym, ◌∙◌, arith}
use Rattle.std.specs.Prelude.{slice_get}
use Rattle.apl_arrays.specs.Cells.{cells_of}
use Rattle.apl_arrays.specs.Left.{listed}
use Rattle.apl_arrays.proofs.Nth.{none_beyond, nth_seen}
use Rattle.apl_arrays.proofs.view_elements.nth_cell.Goals as goal

pub returns-then-nth-count : goal.returns-then-nth-count
returns-then-nth-count c = sym (none_beyond (listed c.args.strided.now.items) c.args.strided.now.offset c.args.strided.now.axes.now c.args.count c.args.nth c.requires.whole (omega arith))

pub returns : goal.returns
returns c =
    c.cell.ensures ∙ ap (slice_get (cells_of (listed c.args.strided.now.items))) c.nth_place.ensures
    ∙ sym (nth_seen (listed c.args.strided.now.items) c.args.strided.now.offset c.args.strided.now.axes.now c.args.nth c.requires.steps (omega (arith, c.requires.whole)))
