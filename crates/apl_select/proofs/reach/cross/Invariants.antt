use Rattle.std.proofs.Common.{◌≡◌, take}
use Rattle.apl_select.specs.inside.Reached.{crossed}
use Rattle.apl_select.proofs.reach.cross.Given as goal

abbrev pub invariant-loop-start : goal.invariant-loop-start
invariant-loop-start l = l.out.items ≡ crossed (take l.start-index l.starts) l.len l.places
