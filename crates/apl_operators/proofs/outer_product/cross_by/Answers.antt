use Rattle.apl_operators.proofs.outer_product.cross_by.Goals as goal

pub returns-in-Times : goal.returns-in-Times
returns-in-Times c = rw c.in-Times.is c.cross.ensures
