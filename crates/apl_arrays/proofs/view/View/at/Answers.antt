use Rattle.std.proofs.Common.{◌∙◌}
use Rattle.apl_arrays.proofs.Formed.{read_at}
use Rattle.apl_arrays.proofs.view.View.at.Goals as goal

pub returns-in-Some : goal.returns-in-Some
returns-in-Some c =
    c.cell.ensures
    ∙ read_at _ c.self.inside.offset c.self.inside.axes.items c.as_slice.result.now c.args.index.now c.in-Some.place c.place_in.result c.args.self.now c.self.invariant c.as_slice.ensures.value c.place_in.ensures c.in-Some.is c.self.view_is
