use Rattle.std.proofs.Common.{◌≤◌, ◌*◌, length}
use Rattle.apl_folds.specs.inside.Prefixes.{ArePrefixes}
use Rattle.apl_folds.proofs.running.run_lines.Given as goal

-- the prefixes of so many lines
abbrev pub invariant-loop-line : goal.invariant-loop-line
invariant-loop-line g l = record {
  enough : l.line * l.axis.length ≤ length l.out.items;
  few : length l.out.items ≤ length l.numbers;
  prefixes : ArePrefixes g.R.Running.meaning (g.L.Lane.numbers l.numbers) l.axis (l.line * l.axis.length) (g.M.Lane.numbers l.out.items);
}
