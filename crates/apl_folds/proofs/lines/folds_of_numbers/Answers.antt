use Rattle.apl_folds.proofs.lines.folds_of_numbers.Goals as goal

pub returns-in-I8 : goal.returns-in-I8
returns-in-I8 c = rw c.in-I8.is c.folds_in.ensures

pub returns-in-I32 : goal.returns-in-I32
returns-in-I32 c = rw c.in-I32.is c.folds_in-in-I32.ensures

pub returns-in-I64 : goal.returns-in-I64
returns-in-I64 c = rw c.in-I64.is c.folds_in-in-I64.ensures
