use Rattle.std.proofs.Common.{get_or, arith, ap, sym, ◌∙◌}
use Rattle.std.specs.Prelude.{unwrap_or}
use Rattle.std.proofs.lemmas.Bool.{ne_eqb}
use Rattle.apl_arrays.specs.Strides.{lengths}
use Rattle.apl_arrays.specs.Views.{joined}
use Rattle.apl_arrays.proofs.Joining.{least_with, least_all, least_skip, joined_none}
use Rattle.apl_arrays.proofs.join.least_length.Goals as goal

pub loop-m-preserved-then-numbers-m : goal.loop-m-preserved-then-numbers-m
loop-m-preserved-then-numbers-m c =
    least_skip c.args.number c.args.numbers.now c.args.axes.now c.loop-m.m c.loop-m.least (omega arith) (omega arith) (ne_eqb (get_or c.args.numbers.now c.loop-m.m 0) c.args.number (λ e. omega (arith, e)))
    ∙ c.loop-m.invariant

pub returns : goal.returns
returns c =
    c.unwrap_or-2.ensures
    ∙ ap (λ o. unwrap_or o 0) (ap (least_with c.loop-m.least) (sym (joined_none c.args.number c.args.numbers.now c.args.axes.now c.loop-m.m (omega arith))) ∙ c.loop-m.invariant)
    ∙ least_all (joined c.args.number c.args.numbers.now (lengths c.args.axes.now))
