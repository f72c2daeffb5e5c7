use Rattle.apl_folds.proofs.prefixes.prefixes.Goals as goal

pub returns-in-I8 : goal.returns-in-I8
returns-in-I8 c = rw c.in-I8.is c.prefixes_in.ensures

pub returns-in-I32 : goal.returns-in-I32
returns-in-I32 c = rw c.in-I32.is c.prefixes_in-in-I32.ensures

pub returns-in-I64 : goal.returns-in-I64
returns-in-I64 c = rw c.in-I64.is c.prefixes_in-in-I64.ensures
