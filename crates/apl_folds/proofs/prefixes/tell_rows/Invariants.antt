use Rattle.std.proofs.Common.{◌≡◌, ◌<◌, ◌+◌, ◌*◌, ◌%◌, ℕ, length, get_or}
use Rattle.apl_folds.specs.inside.Prefixes.{before, ArePrefixes}
use Rattle.apl_folds.proofs.prefixes.tell_rows.Given as goal

-- what is kept of the numbers before the next row, and the prefixes of so many rows
abbrev pub invariant-loop-row : goal.invariant-loop-row
invariant-loop-row g l = record {
  columns : length l.all ≡ l.axis.up;
  size : length l.out ≡ length l.fn.out;
  kept : 0 < l.row % l.axis.length → (j : ℕ) (d : g.row.K.Denot) → j < length l.all → g.K.Kept.knows (get_or l.all j d) (before (g.L.Lane.numbers l.numbers) l.axis (l.row * l.axis.up + j));
  prefixes : ArePrefixes g.F.Scalar.meaning (g.L.Lane.numbers l.numbers) l.axis (l.row * l.axis.up) l.out;
}
