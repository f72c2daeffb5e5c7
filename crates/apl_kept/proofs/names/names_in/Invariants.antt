use Rattle.std.proofs.Common.{◌≡◌, ◌++◌, drop, map}
use Rattle.apl_kept.specs.Names.{named, names_of}
use Rattle.apl_kept.proofs.names.names_in.Given as goal

abbrev pub invariant-loop-name : goal.invariant-loop-name
invariant-loop-name l = l.names.items ++ map (λ e. named l.machine e.0) (drop l.name-index l.name-items) ≡ names_of l.machine
