use Rattle.std.proofs.Common.{◌≡◌, ◌-◌, ◌++◌, vec_len}
use Rattle.std.specs.Prelude.{IsTrue}
use Rattle.apl_runs.specs.Runs.{IsPiece}
use Rattle.apl_runs.proofs.lines.read_line.Given as goal

abbrev pub invariant-loop-reader : goal.invariant-loop-reader
invariant-loop-reader g l = record {
  is_piece : IsPiece l.line.items;
  read : IsTrue g.R.Source.tells → g.R.Source.left l.fn.reader ≡ l.line.items ++ g.R.Source.left l.reader;
  reader : g.R.Source.failed l.reader ≡ g.R.Source.failed l.fn.reader;
}

abbrev pub decreases-loop-reader : goal.decreases-loop-reader
decreases-loop-reader g l = 2001 - vec_len l.line
