use Rattle.std.proofs.Common.{sym, ◌∙◌}
use Rattle.apl_folds.specs.Lines.{line_of}
use Rattle.apl_folds.proofs.Comparisons.{agree_two}
use Rattle.apl_folds.proofs.Rows.{length-line}
use Rattle.apl_folds.proofs.characters.is_same.Goals as goal

pub returns-then-count-ne2 : goal.returns-then-count-ne2
returns-then-count-ne2 c =
    sym (agree_two (line_of 0 c.args.characters.now c.args.axis.now c.args.at c.args.count) (λ e. c.if-count-ne2.true (sym (length-line 0 c.args.characters.now c.args.axis.now c.args.at c.args.count) ∙ e)))
