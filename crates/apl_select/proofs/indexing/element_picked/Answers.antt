use Rattle.apl_arrays.specs.Left.{listed}
use Rattle.apl_select.proofs.SinglePlace.{indexed_if}
use Rattle.apl_select.proofs.indexing.element_picked.Goals as goal

pub returns : goal.returns
returns c =
    indexed_if c.args.b.now c.args.origin c.args.slots.now c.in_ok-place.place (listed c.items.result) c.cell.result c.items.ensures.full c.in_ok-place.ensures.place c.items.ensures.value c.cell.ensures
