use Rattle.std.proofs.Common.{arith, rules, ap, sym, subst, ◌≡◌, ◌++◌, ◌∷◌, List, ℕ, ◌∙◌}
use Rattle.apl_runs.proofs.Reading.{more_piece}
use Rattle.apl_runs.proofs.lines.read_line.Goals as goal

pub returns-in-Ok-Some-eq10-clause-line : goal.returns-in-Ok-Some-eq10-clause-line
returns-in-Ok-Some-eq10-clause-line g c = λ t.
    let first : g.R.Source.left c.take_piece.new.self ≡ 10 ∷ g.R.Source.left c.read_byte.new.reader = search rules in
    record {
      piece = c.take_piece.new.line.items;
      is_piece = more_piece _ _ _ c.loop-reader.invariant.is_piece (omega (arith, c.loop-reader.invariant.is_piece.short)) c.take_piece.ensures.piece;
      read = c.loop-reader.invariant.read t ∙ c.take_piece.ensures.bytes t ∙ ap (λ rest. c.take_piece.new.line.items ++ rest) first;
      kept = c.drop_return.ensures;
    }
