use Rattle.std.proofs.lemmas.Nat.{le_or_l, le_or_r}
use Rattle.apl_scalar.proofs.overflow.wider.Goals as goal

pub returns-clause-x : goal.returns-clause-x
returns-clause-x c = le_or_l c.args.x c.args.y

pub returns-clause-y : goal.returns-clause-y
returns-clause-y c = le_or_r c.args.x c.args.y
