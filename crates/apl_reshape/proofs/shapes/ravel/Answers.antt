use Rattle.std.proofs.Common.{Ok, length, ap, sym, ◌∙◌}
use Rattle.apl_arrays.specs.Cells.{Arr}
use Rattle.apl_reshape.proofs.Limits.{vector_stays}
use Rattle.apl_reshape.proofs.shapes.ravel.Goals as goal

pub returns-then-shape-eq1 : goal.returns-then-shape-eq1
returns-then-shape-eq1 c =
    ap (λ (a : Arr). Ok a) (vector_stays c.args.b.now (sym (ap length c.shape.ensures.value) ∙ c.if-shape-eq1.true) c.shape.ensures.array.full ∙ sym c.in_ok-copy.ensures.value)
