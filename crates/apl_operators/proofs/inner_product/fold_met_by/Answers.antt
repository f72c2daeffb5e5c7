use Rattle.apl_operators.proofs.inner_product.fold_met_by.Goals as goal

pub returns-in-Times : goal.returns-in-Times
returns-in-Times c = rw c.in-Times.is c.fold_met.ensures
