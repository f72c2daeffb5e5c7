use Rattle.std.proofs.Common.{sym, ◌∙◌}
use Rattle.apl_arrays.specs.Left.{listed}
use Rattle.apl_folds.proofs.Whole.{all_shown}
use Rattle.apl_folds.proofs.order.shows_all.Goals as goal

pub returns-then-strided-eq0 : goal.returns-then-strided-eq0
returns-then-strided-eq0 c =
    λ h. all_shown (listed c.args.strided.now.items) c.args.strided.now.offset c.args.strided.now.axes.now c.if-strided-eq0.true (c.are_whole.ensures.whole h) (sym c.len.ensures ∙ c.are_whole.ensures.size h)
