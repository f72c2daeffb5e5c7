use Rattle.std.proofs.Common.{sym, ap, subst, ◌∙◌}
use Rattle.std.proofs.lemmas.List.{take_all}
use Rattle.apl_desk.specs.Desk.{AreAlone}
use Rattle.apl_desk.specs.Views.{addressed_list}
use Rattle.apl_desk.proofs.Alone.{after_all, are_alone, goes_on, left_at}
use Rattle.apl_desk.proofs.desk.Desk.drive.Goals as goal

pub returns-in-Err-clause-err : goal.returns-in-Err-clause-err
returns-in-Err-clause-err c =
    left_at c.args.self.now c.args.pairs.now c.loop-pair.pair c.in-Err.steps c.loop-pair.self c.apply.new.self _ c.loop-pair-test.true (c.index-pairs-pair.is)
    c.requires c.loop-pair.invariant.0 c.in-Err.ensures.part c.in-Err.ensures.err

pub loop-pair-preserved : goal.loop-pair-preserved
loop-pair-preserved c =
    let next = goes_on c.args.self.now c.args.pairs.now c.loop-pair.pair c.loop-pair.self c.apply.new.self _ c.loop-pair-test.true (c.index-pairs-pair.is) c.loop-pair.invariant.0 c.in_default.ensures.ok in
    (next.0, next.1 ∙ c.loop-pair.invariant.1)

pub returns-clause-ok : goal.returns-clause-ok
returns-clause-ok c =
    let whole = take_all c.loop-pair.pair c.args.pairs.now c.loop-pair-test.false in
    let eq = c.loop-pair.invariant.0 ∙ ap (λ pairs. after_all c.args.self.now (addressed_list pairs)) whole in
    subst (λ now. AreAlone c.args.self.now (addressed_list c.args.pairs.now) now) (sym eq) (are_alone c.args.self.now (addressed_list c.args.pairs.now))
