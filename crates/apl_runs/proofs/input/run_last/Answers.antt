use Rattle.std.proofs.lemmas.Result.{err_from_is_err_and}
use Rattle.apl_runs.proofs.Last.{last_line-one, fails-before_end, writes-end}
use Rattle.apl_runs.proofs.input.run_last.Goals as goal

pub returns-in_err-hear-clause-wrote : goal.returns-in_err-hear-clause-wrote
returns-in_err-hear-clause-wrote g c =
    let p = err_from_is_err_and c.from_residual.result c.from_residual.ensures.1 in
    rw (p.1, p.2, last_line-one c.args.line.now c.if-is_empty.ensures) (
    fails-before_end (g.L.Listener.way c.args.listener.now) c.requires.in_order c.in_err-hear.field-0.0 c.args.on.now c.args.line.now g.W.Sink.tells (g.W.Sink.written c.args.writer.now) (g.W.Sink.written c.hear.new.writer)
    c.in_err-hear.ensures.wrote)

pub returns-clause-wrote : goal.returns-clause-wrote
returns-clause-wrote g c =
    rw (last_line-one c.args.line.now c.if-is_empty.ensures) (
    writes-end (g.L.Listener.way c.args.listener.now) c.requires.in_order c.end-2.result c.args.on.now c.hear.new.on c.args.line.now g.W.Sink.tells (g.W.Sink.written c.args.writer.now) (g.W.Sink.written c.hear.new.writer)
    (g.W.Sink.written c.end-2.new.writer) c.in_ok-hear.ensures.state c.in_ok-hear.ensures.wrote c.end-2.ensures.wrote)
