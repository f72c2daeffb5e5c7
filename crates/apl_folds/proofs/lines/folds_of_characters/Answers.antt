use Rattle.std.proofs.Common.{ℤ, Vec, Global}
use Rattle.apl_arrays.proofs.Exits.{answers_along}
use Rattle.apl_folds.specs.Lines.{agree, line_of}
use Rattle.apl_folds.proofs.Comparisons.{verdict}
use Rattle.apl_folds.proofs.Leaves.{made_same}
use Rattle.apl_folds.proofs.lines.folds_of_characters.Goals as goal

pub returns : goal.returns
returns c =
    answers_along (λ (v : Vec ℤ Global). v.items) _ _ c.walked.result
    (made_same _ _ c.args.lines.now.start.at c.args.lines.now.start.count c.args.lines.now.start.depth c.args.lines.now.axes.now
    (λ p count. verdict c.args.function (agree (line_of 0 c.args.characters.now c.args.lines.now.inner p count)) c.compared.result c.compared-2.result c.compared.ensures c.compared-2.ensures))
    c.walked.ensures
