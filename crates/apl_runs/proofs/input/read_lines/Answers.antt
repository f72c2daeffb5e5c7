use Rattle.std.proofs.Common.{◌∙◌, arith}
use Rattle.std.proofs.lemmas.Result.{err_from_is_err_and}
use Rattle.apl_runs.proofs.Reached.{reached-line, stopped-line, stopped-reading, stopped-full, ends-last, ends-full}
use Rattle.apl_runs.proofs.input.read_lines.Goals as goal

pub returns-in_err-read_line-clause-ran : goal.returns-in_err-read_line-clause-ran
returns-in_err-read_line-clause-ran g c =
    let p = err_from_is_err_and c.from_residual.result c.from_residual.ensures.1 in
    rw (p.1, p.2) (λ r. stopped-reading (g.L.Listener.way c.args.listener.now) c.requires.in_order c.in_err-read_line.field-0.0 c.args.on.now (g.R.Source.left c.args.reader.now) (g.R.Source.left c.loop.reader)
    (g.R.Source.left c.read_line.new.reader) g.W.Sink.tells (g.W.Sink.written c.args.writer.now) (g.W.Sink.written c.loop.writer) c.loop.on c.loop.counter c.read_line.new.line.items
    (c.loop.invariant.reached r) (c.in_err-read_line.ensures.line r) (omega arith))

pub returns-then-not-branch-clause-ran : goal.returns-then-not-branch-clause-ran
returns-then-not-branch-clause-ran g c = λ r.
    ends-last (g.L.Listener.way c.args.listener.now) c.requires.in_order c.run_last.result c.args.on.now (g.R.Source.left c.args.reader.now) (g.R.Source.left c.loop.reader) (g.R.Source.left c.read_line.new.reader) g.W.Sink.tells
    (g.W.Sink.written c.args.writer.now) (g.W.Sink.written c.loop.writer) (g.W.Sink.written c.run_last.new.writer) c.loop.on c.run_last.new.on c.loop.counter
    c.read_line.new.line.items c.deref.result.now c.in_ok-read_line.field-0
    (c.loop.invariant.reached r) (omega arith) c.if-not-branch.true c.deref.ensures.value (c.in_ok-read_line.ensures.line r) c.run_last.ensures.state c.run_last.ensures.wrote

pub returns-in_err-hear-clause-ran : goal.returns-in_err-hear-clause-ran
returns-in_err-hear-clause-ran g c =
    let p = err_from_is_err_and c.from_residual-in_err-hear.result c.from_residual-in_err-hear.ensures.1 in
    rw (p.1, p.2) (λ r. stopped-line (g.L.Listener.way c.args.listener.now) c.requires.in_order c.in_err-hear.field-0.0 c.args.on.now (g.R.Source.left c.args.reader.now) (g.R.Source.left c.loop.reader)
    (g.R.Source.left c.read_line.new.reader) g.W.Sink.tells (g.W.Sink.written c.args.writer.now) (g.W.Sink.written c.loop.writer) (g.W.Sink.written c.hear.new.writer) c.loop.on c.loop.counter
    c.read_line.new.line.items c.deref-in-loop.result.now c.in_ok-read_line.field-0
    (c.loop.invariant.reached r) (omega arith) c.if-not-branch.false c.deref-in-loop.ensures.value (c.in_ok-read_line.ensures.line r) c.in_err-hear.ensures.wrote)

pub loop-preserved : goal.loop-preserved
loop-preserved g c = record {
  reached = λ r. reached-line (g.L.Listener.way c.args.listener.now) c.requires.in_order c.args.on.now (g.R.Source.left c.args.reader.now) (g.R.Source.left c.loop.reader) (g.R.Source.left c.read_line.new.reader) g.W.Sink.tells
      (g.W.Sink.written c.args.writer.now) (g.W.Sink.written c.loop.writer) (g.W.Sink.written c.hear.new.writer) c.loop.on c.hear.new.on c.loop.counter
      c.read_line.new.line.items c.deref-in-loop.result.now c.in_ok-read_line.field-0
      (c.loop.invariant.reached r) c.if-not-branch.false c.deref-in-loop.ensures.value (c.in_ok-read_line.ensures.line r) c.in_ok-hear.ensures.state c.in_ok-hear.ensures.wrote;
  between = c.in_ok-hear.ensures.between;
  reader = c.in_ok-read_line.ensures.reader ∙ c.loop.invariant.reader;
  writer = c.in_ok-hear.ensures.writer ∙ c.loop.invariant.writer;
}

pub returns-in_err-read_end-clause-ran : goal.returns-in_err-read_end-clause-ran
returns-in_err-read_end-clause-ran g c =
    let p = err_from_is_err_and c.from_residual-in_err-read_end.result c.from_residual-in_err-read_end.ensures.1 in
    rw (p.1, p.2) (λ r. stopped-full (g.L.Listener.way c.args.listener.now) c.requires.in_order c.in_err-read_end.field-0.0 c.args.on.now (g.R.Source.left c.args.reader.now) (g.R.Source.left c.loop.reader)
    (g.R.Source.left c.read_end.new.reader) g.W.Sink.tells (g.W.Sink.written c.args.writer.now) (g.W.Sink.written c.loop.writer) c.loop.on c.loop.counter
    (c.loop.invariant.reached r) (omega arith) (c.in_err-read_end.ensures.end r))

pub returns-clause-ran : goal.returns-clause-ran
returns-clause-ran g c = λ r.
    ends-full (g.L.Listener.way c.args.listener.now) c.requires.in_order c.end.result c.args.on.now (g.R.Source.left c.args.reader.now) (g.R.Source.left c.loop.reader) (g.R.Source.left c.read_end.new.reader) g.W.Sink.tells
    (g.W.Sink.written c.args.writer.now) (g.W.Sink.written c.loop.writer) (g.W.Sink.written c.end.new.writer) c.loop.on c.end.new.on c.loop.counter
    (c.loop.invariant.reached r) (omega arith) (c.in_ok-read_end.ensures.end r).0 (c.in_ok-read_end.ensures.end r).1 c.end.ensures.state c.end.ensures.wrote
