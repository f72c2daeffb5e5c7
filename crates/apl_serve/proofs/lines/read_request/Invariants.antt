use Rattle.std.proofs.Common.{◌≡◌, ◌≤◌, ◌-◌, length, vec_len}
use Rattle.std.specs.Prelude.{IsTrue}
use Rattle.apl_serve.specs.Answers.{most}
use Rattle.apl_serve.specs.Serving.{ReadPiece}
use Rattle.apl_serve.proofs.lines.read_request.Given as goal

abbrev pub invariant-loop-request : goal.invariant-loop-request
invariant-loop-request g l = record {
  read : IsTrue g.R.Source.tells → ReadPiece l.request.items (g.R.Source.left l.fn.reader) (g.R.Source.left l.reader);
  short : length l.request.items ≤ most;
  reader : g.R.Source.failed l.reader ≡ g.R.Source.failed l.fn.reader;
}

abbrev pub decreases-loop-request : goal.decreases-loop-request
decreases-loop-request g l = 100000001 - vec_len l.request
