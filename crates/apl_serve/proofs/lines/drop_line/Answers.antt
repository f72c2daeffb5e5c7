use Rattle.std.proofs.Common.{◌∙◌, [], ◌∷◌, ◌++◌, length-append, arith}
use Rattle.apl_serve.proofs.Pieces.{piece-more}
use Rattle.apl_serve.proofs.lines.drop_line.Goals as goal

pub loop-preserved : goal.loop-preserved
loop-preserved g c = record {
  read = λ r.
      let before = c.loop.invariant.read r in (
        before.0 ++ c.in-Ok-Some.field-0-0 ∷ [],
        piece-more before.0 (g.R.Source.left c.args.reader.now) (g.R.Source.left c.loop.reader) (g.R.Source.left c.read_byte.new.reader) c.in-Ok-Some.field-0-0 before.1 (rw c.in-Ok-Some.field-0-is at (c.in-Ok-Some.ensures.bytes r)) (grind (arith, c.in-Ok-Some.field-0-0-test)),
        omega (arith, length-append before.0 (c.in-Ok-Some.field-0-0 ∷ []), before.2),
      );
  reader = c.in-Ok-Some.ensures.fine ∙ c.loop.invariant.reader;
}
