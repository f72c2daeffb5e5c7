use Rattle.std.proofs.Common.{◌≡◌, ◌≤◌, ◌+◌, drop}
use Rattle.apl_code.specs.Taken.{taken_by}
use Rattle.apl_code.proofs.instr.taken_by.Given as goal

-- those that are still to come make the count whole
abbrev pub invariant-loop-source : goal.invariant-loop-source
invariant-loop-source l = record {
  few : l.taken ≤ l.source-index;
  whole : l.taken + taken_by (drop l.source-index l.sources) ≡ taken_by l.sources;
}
