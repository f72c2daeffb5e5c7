use Rattle.std.proofs.Common.{◌≡◌, ℕ, List, length}
use Rattle.std.specs.Prelude.{IsTrue}
use Rattle.apl_serve.specs.Serving.{ReadPiece}
use Rattle.apl_serve.proofs.lines.drop_line.Given as goal

abbrev pub invariant-loop : goal.invariant-loop
invariant-loop g l = record {
  read : IsTrue g.R.Source.tells → (piece : List ℕ) × ReadPiece piece (g.R.Source.left l.fn.reader) (g.R.Source.left l.reader) × (length piece ≡ l.counter);
  reader : g.R.Source.failed l.reader ≡ g.R.Source.failed l.fn.reader;
}
