use Rattle.std.proofs.Common.{◌∙◌, sym}
use Rattle.apl_arrays.proofs.Single.{one_cell}
use Rattle.apl_arrays.proofs.array.Array.formed.Goals as goal

pub returns-then-is_empty-clause-value : goal.returns-then-is_empty-clause-value
returns-then-is_empty-clause-value c =
    c.scalar.ensures ∙ one_cell c.args.shape.items _ c.in-Some.cell (sym c.is_empty.ensures ∙ c.if-is_empty.true) c.requires.full (sym c.cell.ensures ∙ c.in-Some.is)
