use Rattle.std.proofs.Common.{◌≤◌, ◌*◌, length}
use Rattle.apl_folds.specs.inside.Prefixes.{ArePrefixes}
use Rattle.apl_folds.proofs.running.run_rows.Given as goal

-- the prefixes of so many rows
abbrev pub invariant-loop-row : goal.invariant-loop-row
invariant-loop-row g l = record {
  enough : l.row * l.axis.up ≤ length l.out.items;
  few : length l.out.items ≤ length l.numbers;
  prefixes : ArePrefixes g.R.Running.meaning (g.L.Lane.numbers l.numbers) l.axis (l.row * l.axis.up) (g.M.Lane.numbers l.out.items);
}
