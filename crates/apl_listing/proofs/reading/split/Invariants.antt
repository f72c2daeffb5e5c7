use Rattle.std.proofs.Common.{◌≡◌, ◌++◌, take, drop}
use Rattle.apl_listing.specs.inside.Reading.{until, past}
use Rattle.apl_listing.proofs.reading.split.Given as goal

abbrev pub invariant-loop-i : goal.invariant-loop-i
invariant-loop-i l = record {
  before : take l.i l.text ++ until l.mark (drop l.i l.text) ≡ until l.mark l.text;
  after : past l.mark (drop l.i l.text) ≡ past l.mark l.text;
}
