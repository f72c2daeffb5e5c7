use Rattle.std.proofs.Common.{◌≡◌, map, ◌++◌, drop}
use Rattle.apl_machine_state.specs.Outcomes.{operand_value}
use Rattle.apl_operands.specs.Operands.{Offers, fetched_from}
use Rattle.apl_phrases.proofs.lists.several_slots.Given as goal

abbrev pub invariant-loop-source : goal.invariant-loop-source
invariant-loop-source l = record {
  there : Offers l.rest (drop l.source-index l.sources);
  slots : l.slots.items ++ map operand_value (fetched_from l.rest (drop l.source-index l.sources)) ≡ map operand_value (fetched_from l.operands l.sources);
}
