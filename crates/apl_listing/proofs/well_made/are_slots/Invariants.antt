use Rattle.std.proofs.Common.{drop}
use Rattle.apl_code.specs.Instr.{AreSlots}
use Rattle.apl_listing.proofs.well_made.are_slots.Given as goal

abbrev pub invariant-loop-source : goal.invariant-loop-source
invariant-loop-source l = record {
  to : AreSlots (drop l.source-index l.sources) → AreSlots l.sources;
  from : AreSlots l.sources → AreSlots (drop l.source-index l.sources);
}
