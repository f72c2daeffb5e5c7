use Rattle.std.proofs.Common.{arith}
use Rattle.apl_defn.proofs.Limits.{few_lines}
use Rattle.apl_defn.proofs.definition.Definition.len.Goals as goal

pub returns-clause-few : goal.returns-clause-few
returns-clause-few c = let few = few_lines _ c.self.invariant in omega (arith, few, c.len.ensures)
