use Rattle.std.proofs.Common.{◌≡◌}
use Rattle.std.specs.Prelude.{IsTrue}
use Rattle.apl_runs.proofs.Reached.{Reached}
use Rattle.apl_runs.proofs.input.read_lines.Given as goal

abbrev pub invariant-loop : goal.invariant-loop
invariant-loop g l = record {
  reached : IsTrue g.R.Source.tells →
      Reached (g.L.Listener.way l.listener) l.fn.on (g.R.Source.left l.fn.reader) (g.R.Source.left l.reader) g.W.Sink.tells (g.W.Sink.written l.fn.writer) (g.W.Sink.written l.writer) l.on l.counter;
  between : g.L.Listener.IsBetweenLines l.on;
  reader : g.R.Source.failed l.reader ≡ g.R.Source.failed l.fn.reader;
  writer : g.W.Sink.failed l.writer ≡ g.W.Sink.failed l.fn.writer;
}
