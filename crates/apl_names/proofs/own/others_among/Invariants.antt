use Rattle.std.proofs.Common.{take}
use Rattle.apl_names.specs.Owned.{Suffice}
use Rattle.apl_names.proofs.own.others_among.Given as goal

abbrev pub invariant-loop-one : goal.invariant-loop-one
invariant-loop-one l = Suffice l.definition l.others.items (take l.one-index l.asked)
