use Rattle.std.proofs.Common.{◌≡◌}
use Rattle.apl_arrays.specs.Written.{with_items}
use Rattle.apl_arrays.proofs.written.write_items.Given as goal

abbrev pub invariant-loop-k : goal.invariant-loop-k
invariant-loop-k g l = (d : g.row.T.Denot) → l.out ≡ with_items d l.initial.out l.places l.items l.k
