use Rattle.std.proofs.Common.{◌≡◌, length, map, take}
use Rattle.apl_loading.proofs.locals.paired.Given as goal

abbrev pub invariant-loop-value : goal.invariant-loop-value
invariant-loop-value l = (map (λ p. p.0) l.pairs.items ≡ take (length l.yielded) l.names) × (map (λ p. p.1) l.pairs.items ≡ l.yielded)
