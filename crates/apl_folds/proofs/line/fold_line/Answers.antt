use Rattle.std.proofs.Common.{arith, ◌≡◌, ◌≤◌, ◌+◌, ℤ, pos, length, Result, ap, sym, ◌∙◌}
use Rattle.apl_faults.specs.declared.fault.Fault.{Fault}
use Rattle.apl_folds.specs.Lines.{fold_by}
use Rattle.apl_scalar.proofs.OfLanes.{as_many}
use Rattle.apl_folds.proofs.Rows.{side_by_side, line_within}
use Rattle.apl_folds.proofs.line.fold_line.Goals as goal

pub returns : goal.returns
returns g c =
    let zs = g.L.Lane.numbers c.args.numbers.now in
    let up : c.args.axis.now.up ≡ 1 = omega arith in
    let down : c.args.axis.now.down ≡ 0 = omega arith in
    let within : c.args.at + c.args.count ≤ length c.args.numbers.now = line_within c.args.axis.now c.args.at c.args.count (length c.args.numbers.now) up down c.requires.line in
    c.fold_some.ensures ∙ ap (λ (f : ℤ → ℤ → Result ℤ Fault). fold_by f (g.L.Lane.numbers c.row.result.now)) (sym c.requires.function)
    ∙ ap (fold_by g.F.Scalar.meaning)
    (c.row.ensures.numbers ∙ side_by_side (pos 0) zs c.args.axis.now c.args.at c.args.count up down (omega (arith, within, as_many g.L.Lane.value g.L.Lane.numbers g.met.L.Lane.each c.args.numbers.now)))
