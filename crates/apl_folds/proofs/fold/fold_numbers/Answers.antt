use Rattle.std.proofs.Common.{rules, ◌<◌, length, sym, ◌∙◌, arith}
use Rattle.apl_scalar.proofs.OfLanes.{as_many}
use Rattle.apl_folds.proofs.Rights.{folded_numbers}
use Rattle.apl_folds.proofs.fold.fold_numbers.Goals as goal

pub returns-else-is_empty : goal.returns-else-is_empty
returns-else-is_empty g c =
    let zs = g.L.Lane.numbers c.args.numbers.now in
    let some : 0 < length c.args.numbers.now = search rules in
    c.fold_some.ensures ∙ sym (folded_numbers c.args.function zs (omega (arith, some, as_many g.L.Lane.value g.L.Lane.numbers g.met.L.Lane.each c.args.numbers.now)))
