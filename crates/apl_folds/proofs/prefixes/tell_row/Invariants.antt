use Rattle.std.proofs.Common.{◌≡◌, ◌<◌, ◌≤◌, ◌+◌, ◌∷◌, [], ◌++◌, ℕ, pos, length, get_or}
use Rattle.apl_folds.specs.inside.Prefixes.{before, ArePrefixes}
use Rattle.apl_folds.proofs.prefixes.tell_row.Given as goal

-- what is kept of the columns so far with their number in this row, and of the others without, and the prefixes so far
abbrev pub invariant-loop-j : goal.invariant-loop-j
invariant-loop-j g l = record {
  columns : length l.all ≡ length l.fn.all;
  size : length l.out ≡ length l.fn.out;
  done : (i : ℕ) (d : g.row.K.Denot) → i < l.j → g.K.Kept.knows (get_or l.all i d) (before (g.L.Lane.numbers l.numbers) l.fn.axis (l.from + i) ++ get_or (g.L.Lane.numbers l.numbers) (l.from + i) (pos 0) ∷ []);
  left : 0 < l.index → (i : ℕ) (d : g.row.K.Denot) → l.j ≤ i → i < length l.all → g.K.Kept.knows (get_or l.all i d) (before (g.L.Lane.numbers l.numbers) l.fn.axis (l.from + i));
  prefixes : ArePrefixes g.F.Scalar.meaning (g.L.Lane.numbers l.numbers) l.fn.axis (l.from + l.j) l.out;
}
