use Rattle.apl_folds.proofs.prefixes.prefixes_in.Goals as goal

pub returns-in-Plus : goal.returns-in-Plus
returns-in-Plus g c = rw c.in-Plus.is c.sums.ensures

pub returns-in-Minus : goal.returns-in-Minus
returns-in-Minus g c = rw c.in-Minus.is c.prefixes_by.ensures

pub returns-in-Times : goal.returns-in-Times
returns-in-Times g c = rw c.in-Times.is c.prefixes_by-in-Times.ensures
