use Rattle.std.proofs.Common.{◌≡◌}
use Rattle.std.specs.Prelude.{IsTrue}
use Rattle.apl_serve.proofs.InTurn.{Served}
use Rattle.apl_serve.proofs.serving.serve.Given as goal

abbrev pub invariant-loop : goal.invariant-loop
invariant-loop g l = record {
  served : IsTrue g.R.Source.tells → Served l.fn.kept l.kept (g.R.Source.left l.fn.reader) (g.R.Source.left l.reader) g.W.Sink.tells (g.W.Sink.written l.fn.writer) (g.W.Sink.written l.writer) l.counter;
  reader : g.R.Source.failed l.reader ≡ g.R.Source.failed l.fn.reader;
  writer : g.W.Sink.failed l.writer ≡ g.W.Sink.failed l.fn.writer;
}
