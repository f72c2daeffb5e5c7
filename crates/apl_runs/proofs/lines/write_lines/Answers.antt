use Rattle.std.proofs.Common.{◌∙◌}
use Rattle.std.proofs.lemmas.Result.{err_from_is_err_and}
use Rattle.apl_runs.proofs.Writing.{extends-lines, wrote-lines}
use Rattle.apl_runs.proofs.lines.write_lines.Goals as goal

pub returns-in_err-write_text-clause-wrote : goal.returns-in_err-write_text-clause-wrote
returns-in_err-write_text-clause-wrote g c =
    let p = err_from_is_err_and c.from_residual-in_err-write_text.result c.from_residual-in_err-write_text.ensures.1 in
    rw (p.1, p.2) (
      c.in_err-write_text.ensures.wrote.0,
      λ t. extends-lines c.args.label.now (g.W.Sink.written c.args.writer.now) (g.W.Sink.written c.loop-left.writer) (g.W.Sink.written c.write_text.new.writer) c.as_bytes.result.now c.args.lines.now c.loop-left.left.now
          c.split_at.result.0.now c.min.result c.split_at.ensures.front (c.loop-left.invariant.bytes t) (c.as_bytes.ensures.value ∙ c.in_ok-spell.ensures) (c.in_err-write_text.ensures.wrote.1 t),
    )

pub loop-left-preserved : goal.loop-left-preserved
loop-left-preserved g c = record {
  bytes = λ t. wrote-lines c.args.label.now (g.W.Sink.written c.args.writer.now) (g.W.Sink.written c.loop-left.writer) (g.W.Sink.written c.write_text.new.writer) c.as_bytes.result.now c.args.lines.now c.loop-left.left.now
      c.split_at.result.0.now c.split_at.result.1.now c.min.result c.split_at.ensures.front c.split_at.ensures.back (c.loop-left.invariant.bytes t) (c.as_bytes.ensures.value ∙ c.in_ok-spell.ensures) (c.in_ok-write_text.ensures.wrote t);
  writer = c.in_ok-write_text.ensures.writer ∙ c.loop-left.invariant.writer;
}
