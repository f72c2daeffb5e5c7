use Rattle.std.proofs.lemmas.Result.{err_from_is_err_and}
use Rattle.apl_serve.proofs.Answering.{served_dropped, unserved_dropped}
use Rattle.apl_serve.proofs.serving.serve_one.Goals as goal

pub serve_request-requires : goal.serve_request-requires
serve_request-requires g c = rw (c.deref.ensures.value) (rw c.in-Whole.is at c.in_ok-read_request.ensures.short)

pub returns-in_err-write_answer-in-Dropped-clause-served : goal.returns-in_err-write_answer-in-Dropped-clause-served
returns-in_err-write_answer-in-Dropped-clause-served g c =
    let p = err_from_is_err_and c.from_residual-in_err-write_answer-in-Dropped.result c.from_residual-in_err-write_answer-in-Dropped.ensures.1 in
    rw (p.1, p.2) (λ r. unserved_dropped c.in_err-write_answer-in-Dropped.field-0.0 c.in-Dropped.refusal c.args.kept.now (g.R.Source.left c.args.reader.now) (g.R.Source.left c.read_request.new.reader) g.W.Sink.tells (g.W.Sink.written c.args.writer.now) (g.W.Sink.written c.write_answer.new.writer)
    (rw c.in-Dropped.is at (c.in_ok-read_request.ensures.request r)) (rw (c.as_bytes.ensures.value, c.text.ensures) at c.in_err-write_answer-in-Dropped.ensures.wrote))

pub returns-in-Dropped-clause-served : goal.returns-in-Dropped-clause-served
returns-in-Dropped-clause-served g c = λ r. served_dropped c.in-Dropped.refusal c.args.kept.now (g.R.Source.left c.args.reader.now) (g.R.Source.left c.read_request.new.reader) g.W.Sink.tells (g.W.Sink.written c.args.writer.now) (g.W.Sink.written c.write_answer.new.writer)
    (rw c.in-Dropped.is at (c.in_ok-read_request.ensures.request r)) (rw (c.as_bytes.ensures.value, c.text.ensures) at c.in_ok-write_answer-in-Dropped.ensures.wrote)
