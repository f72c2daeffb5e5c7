use Rattle.std.proofs.Common.{drop}
use Rattle.std.proofs.lemmas.Result.{err_from_is_err_and}
use Rattle.apl_loading.proofs.Lists.{all_read, not_read_at, drop_past}
use Rattle.apl_loading.proofs.field.read_all.Goals as goal

pub returns-in_err-read-clause-refused : goal.returns-in_err-read-clause-refused
returns-in_err-read-clause-refused g c =
    let p = err_from_is_err_and c.from_residual-in_err-read.result c.from_residual-in_err-read.ensures.1 in
    rw (p.1, p.2) (λ m. ((c.in_err-read.ensures.refused m).0, not_read_at g.T.Field.stands_for c.args.fields.now c.loop-field.field-index c.loop-field.parts.items c.field-item.result c.loop-field.invariant.0 c.loop-field-test.true c.field-item.is (c.in_err-read.ensures.refused m).1))

pub returns-clause-found : goal.returns-clause-found
returns-clause-found g c = all_read g.T.Field.stands_for c.args.fields.now (drop c.loop-field.field-index c.args.fields.now) c.loop-field.parts.items c.loop-field.invariant.0 (drop_past c.args.fields.now c.loop-field.field-index c.loop-field-test.false)
