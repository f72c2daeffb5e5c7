use Rattle.std.proofs.Common.{◌≡◌}
use Rattle.apl_select.specs.Compress.{kept}
use Rattle.apl_select.proofs.bits.kept_over.Given as goal

abbrev pub invariant-loop-k : goal.invariant-loop-k
invariant-loop-k g l = l.places.items ≡ kept (g.L.Lane.numbers l.bits) l.len l.k
