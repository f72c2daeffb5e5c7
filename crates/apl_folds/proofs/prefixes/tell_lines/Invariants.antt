use Rattle.std.proofs.Common.{◌≡◌, ◌*◌, length}
use Rattle.apl_folds.specs.inside.Prefixes.{ArePrefixes}
use Rattle.apl_folds.proofs.prefixes.tell_lines.Given as goal

-- the prefixes of so many lines
abbrev pub invariant-loop-line : goal.invariant-loop-line
invariant-loop-line g l = record {
  size : length l.out ≡ length l.fn.out;
  prefixes : ArePrefixes g.F.Scalar.meaning (g.L.Lane.numbers l.numbers) l.axis (l.line * l.axis.length) l.out;
}
