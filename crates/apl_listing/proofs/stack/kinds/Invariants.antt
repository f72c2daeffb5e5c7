use Rattle.std.proofs.Common.{◌≡◌, [], take, drop, reverse}
use Rattle.apl_listing.specs.Kinds.{kinds}
use Rattle.apl_listing.proofs.stack.kinds.Given as goal

abbrev pub invariant-loop-k : goal.invariant-loop-k
invariant-loop-k l = kinds (reverse l.stack.items) (drop l.k (take l.count l.code)) ≡ kinds [] (take l.count l.code)
