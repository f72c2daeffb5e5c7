use Rattle.std.proofs.Common.{◌∙◌, arith}
use Rattle.std.proofs.lemmas.Result.{err_from_is_err_and}
use Rattle.apl_serve.proofs.InTurn.{round-failed, round-served, served-many}
use Rattle.apl_serve.proofs.serving.serve.Goals as goal

pub returns-in_err-serve_one-clause-served : goal.returns-in_err-serve_one-clause-served
returns-in_err-serve_one-clause-served g c =
    let p = err_from_is_err_and c.from_residual.result c.from_residual.ensures.1 in
    rw (p.1, p.2) (λ r. round-failed c.in_err-serve_one.field-0.0 c.args.kept.now c.loop.kept c.serve_one.new.kept (g.R.Source.left c.args.reader.now) (g.R.Source.left c.loop.reader) (g.R.Source.left c.serve_one.new.reader) g.W.Sink.tells
    (g.W.Sink.written c.args.writer.now) (g.W.Sink.written c.loop.writer) (g.W.Sink.written c.serve_one.new.writer) c.loop.counter
    (c.loop.invariant.served r) (c.in_err-serve_one.ensures.served r))

pub loop-preserved : goal.loop-preserved
loop-preserved g c = record {
  served = λ r. round-served c.in_ok-serve_one.field-0 c.args.kept.now c.loop.kept c.serve_one.new.kept (g.R.Source.left c.args.reader.now) (g.R.Source.left c.loop.reader) (g.R.Source.left c.serve_one.new.reader) g.W.Sink.tells
      (g.W.Sink.written c.args.writer.now) (g.W.Sink.written c.loop.writer) (g.W.Sink.written c.serve_one.new.writer) c.loop.counter
      c.if-not-branch.false (c.loop.invariant.served r) (c.in_ok-serve_one.ensures.served r);
  reader = c.in_ok-serve_one.ensures.reader ∙ c.loop.invariant.reader;
  writer = c.in_ok-serve_one.ensures.writer ∙ c.loop.invariant.writer;
}

pub returns-clause-served : goal.returns-clause-served
returns-clause-served g c = λ r. served-many c.args.kept.now c.loop.kept (g.R.Source.left c.args.reader.now) (g.R.Source.left c.loop.reader) g.W.Sink.tells
    (g.W.Sink.written c.args.writer.now) (g.W.Sink.written c.loop.writer) c.loop.counter (c.loop.invariant.served r) (omega arith)
