use Rattle.std.proofs.Common.{◌≡◌, length}
use Rattle.std.specs.Prelude.{IsTrue}
use Rattle.apl_runs.specs.Output.{labelled}
use Rattle.apl_devices.specs.Devices.{Wrote}
use Rattle.apl_runs.proofs.lines.write_lines.Given as goal

abbrev pub invariant-loop-left : goal.invariant-loop-left
invariant-loop-left g l = record {
  bytes : IsTrue g.W.Sink.tells → Wrote (g.W.Sink.written l.fn.writer) (g.W.Sink.written l.writer) (labelled l.label l.lines) (labelled l.label l.left);
  writer : g.W.Sink.failed l.writer ≡ g.W.Sink.failed l.fn.writer;
}

abbrev pub decreases-loop-left : goal.decreases-loop-left
decreases-loop-left g l = length l.left
