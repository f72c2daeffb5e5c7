use Rattle.std.proofs.Common.{◌≤◌, length, arith}
use Rattle.std.proofs.lemmas.Result.{err_from_is_err_and}
use Rattle.apl_serve.specs.Answers.{most}
use Rattle.apl_serve.proofs.Pieces.{reads-long, reads-undropped, reads-unkept}
use Rattle.apl_serve.proofs.lines.read_request.Goals as goal

pub returns-in_err-drop_line-in-Ok-Some-clause-request : goal.returns-in_err-drop_line-in-Ok-Some-clause-request
returns-in_err-drop_line-in-Ok-Some-clause-request g c =
    let p = err_from_is_err_and c.from_residual.result c.from_residual.ensures.1 in
    rw (p.1, p.2) (λ r. reads-undropped c.in_err-drop_line-in-Ok-Some.field-0.0 c.loop-request.request.items (g.R.Source.left c.args.reader.now) (g.R.Source.left c.loop-request.reader) (g.R.Source.left c.read_byte.new.reader)
    (g.R.Source.left c.drop_line.new.reader) c.in-Ok-Some.byte (c.loop-request.invariant.read r) (rw c.in-Ok-Some.field-0-is at (c.in-Ok-Some.ensures.bytes r)) (grind (arith, c.in-Ok-Some.byte-test)) (c.in_err-drop_line-in-Ok-Some.ensures.line r))

pub returns-then-len-eq-MAX_REQUEST-clause-request : goal.returns-then-len-eq-MAX_REQUEST-clause-request
returns-then-len-eq-MAX_REQUEST-clause-request g c =
    let long : most ≤ length c.loop-request.request.items = grind (arith, c.len.ensures, c.if-len-eq-MAX_REQUEST.true, c.loop-request.request.ok) in
    λ r. reads-long c.loop-request.request.items (g.R.Source.left c.args.reader.now) (g.R.Source.left c.loop-request.reader) (g.R.Source.left c.read_byte.new.reader)
    (g.R.Source.left c.drop_line.new.reader) c.in-Ok-Some.byte (c.loop-request.invariant.read r) long (rw c.in-Ok-Some.field-0-is at (c.in-Ok-Some.ensures.bytes r)) (grind (arith, c.in-Ok-Some.byte-test)) (c.in_ok-drop_line-in-Ok-Some.ensures.line r)

pub returns-in_err-drop_line-in-Ok-Some-2-clause-request : goal.returns-in_err-drop_line-in-Ok-Some-2-clause-request
returns-in_err-drop_line-in-Ok-Some-2-clause-request g c =
    let p = err_from_is_err_and c.from_residual-in_err-drop_line-in-Ok-Some-2.result c.from_residual-in_err-drop_line-in-Ok-Some-2.ensures.1 in
    rw (p.1, p.2) (λ r. reads-undropped c.in_err-drop_line-in-Ok-Some-2.field-0.0 c.loop-request.request.items (g.R.Source.left c.args.reader.now) (g.R.Source.left c.loop-request.reader) (g.R.Source.left c.read_byte.new.reader)
    (g.R.Source.left c.drop_line-then-is_err.new.reader) c.in-Ok-Some.byte (c.loop-request.invariant.read r) (rw c.in-Ok-Some.field-0-is at (c.in-Ok-Some.ensures.bytes r)) (grind (arith, c.in-Ok-Some.byte-test)) (c.in_err-drop_line-in-Ok-Some-2.ensures.line r))

pub returns-then-is_err-clause-request : goal.returns-then-is_err-clause-request
returns-then-is_err-clause-request g c = λ r. reads-unkept c.loop-request.request.items (g.R.Source.left c.args.reader.now) (g.R.Source.left c.loop-request.reader) (g.R.Source.left c.read_byte.new.reader)
    (g.R.Source.left c.drop_line-then-is_err.new.reader) c.in-Ok-Some.byte (c.loop-request.invariant.read r) (rw c.in-Ok-Some.field-0-is at (c.in-Ok-Some.ensures.bytes r)) (grind (arith, c.in-Ok-Some.byte-test)) (c.in_ok-drop_line-in-Ok-Some-2.ensures.line r)
