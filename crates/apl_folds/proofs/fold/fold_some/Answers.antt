use Rattle.apl_folds.proofs.fold.fold_some.Goals as goal

pub returns-in-And : goal.returns-in-And
returns-in-And g c = rw c.in-And.is c.fold_connected.ensures

pub returns-in-Or : goal.returns-in-Or
returns-in-Or g c = rw c.in-Or.is c.fold_connected-in-Or.ensures

pub returns-in-Nand : goal.returns-in-Nand
returns-in-Nand g c = rw c.in-Nand.is c.fold_connected-in-Nand.ensures

pub returns-in-Nor : goal.returns-in-Nor
returns-in-Nor g c = rw c.in-Nor.is c.fold_connected-in-Nor.ensures
