use Rattle.std.proofs.Common.{◌≡◌, ◌-◌, ◌*◌}
use Rattle.std.specs.List.{range_with_len}
use Rattle.apl_operators.specs.Joints.{met, folds_of, folds_after}
use Rattle.apl_operators.proofs.inner_product.fold_each.Given as goal

-- the folds so far and those to come are all the folds
abbrev pub invariant-loop-place : goal.invariant-loop-place
invariant-loop-place g l =
    folds_after l.out.items l.refused l.function (met g.F.Attempt.meaning l.xs l.ys l.joint) (range_with_len l.place (l.joint.rows * l.joint.columns - l.place))
    ≡ folds_of l.function (met g.F.Attempt.meaning l.xs l.ys l.joint) (range_with_len 0 (l.joint.rows * l.joint.columns))
