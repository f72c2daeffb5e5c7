use Rattle.std.proofs.Common.{◌≡◌, ◌<◌, ◌+◌, length}
use Rattle.apl_folds.specs.inside.Prefixes.{before, ArePrefixes}
use Rattle.apl_folds.proofs.prefixes.tell_line.Given as goal

-- what is kept of the numbers before the next one, and the prefixes so far
abbrev pub invariant-loop-k : goal.invariant-loop-k
invariant-loop-k g l = record {
  size : length l.out ≡ length l.fn.out;
  kept : l.k < l.axis.length → g.K.Kept.knows l.kept (before (g.L.Lane.numbers l.numbers) l.axis (l.from + l.k));
  prefixes : ArePrefixes g.F.Scalar.meaning (g.L.Lane.numbers l.numbers) l.axis (l.from + l.k) l.out;
}
