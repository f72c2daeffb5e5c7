use Rattle.std.proofs.Common.{◌+◌, get_or, arith, sym, ap, ◌∙◌}
use Rattle.std.proofs.lemmas.Bool.{eq-eqb, ne_eqb}
use Rattle.apl_arrays.proofs.Joining.{left_here, left_there, parts_low, joined_low}
use Rattle.apl_arrays.proofs.join.join.Goals as goal

pub loop-m-preserved-then-numbers-m : goal.loop-m-preserved-then-numbers-m
loop-m-preserved-then-numbers-m c =
    let l = left_there c.args.number c.least_length-length.result c.args.numbers.now c.args.axes.now c.loop-m.m (omega arith) (omega arith) (ne_eqb (get_or c.args.numbers.now c.loop-m.m 0) c.args.number (λ e. omega (arith, e))) in
    record {
      length = c.loop-m.invariant.length;
      up = ap (λ z. c.loop-m.joined.up + z) (sym l.0) ∙ c.loop-m.invariant.up;
      down = ap (λ z. c.loop-m.joined.down + z) (sym l.1) ∙ c.loop-m.invariant.down;
      skip = ap (λ z. c.loop-m.skipped + z) (sym l.2) ∙ c.loop-m.invariant.skip;
    }

pub overflow_add-joined : goal.overflow_add-joined
overflow_add-joined c =
    let l = left_here c.args.number c.least_length-length.result c.args.numbers.now c.args.axes.now c.loop-m.m (omega arith) (omega arith) (eq-eqb (get_or c.args.numbers.now c.loop-m.m 0) c.args.number (omega arith)) in
    omega (arith, l.0, c.loop-m.invariant.up, parts_low c.args.number c.least_length-length.result c.args.numbers.now c.args.axes.now 0)

pub overflow_add-joined-in-loop-m : goal.overflow_add-joined-in-loop-m
overflow_add-joined-in-loop-m c =
    let l = left_here c.args.number c.least_length-length.result c.args.numbers.now c.args.axes.now c.loop-m.m (omega arith) (omega arith) (eq-eqb (get_or c.args.numbers.now c.loop-m.m 0) c.args.number (omega arith)) in
    omega (arith, l.1, c.loop-m.invariant.down, parts_low c.args.number c.least_length-length.result c.args.numbers.now c.args.axes.now 0)

pub overflow_sub-skipped : goal.overflow_sub-skipped
overflow_sub-skipped c =
    omega (arith, c.least_length-length.ensures, joined_low c.args.numbers.now c.args.axes.now c.args.number c.loop-m.m (omega arith) (omega arith) (eq-eqb (get_or c.args.numbers.now c.loop-m.m 0) c.args.number (omega arith)))

pub overflow_mul-skipped : goal.overflow_mul-skipped
overflow_mul-skipped c =
    let l = left_here c.args.number c.least_length-length.result c.args.numbers.now c.args.axes.now c.loop-m.m (omega arith) (omega arith) (eq-eqb (get_or c.args.numbers.now c.loop-m.m 0) c.args.number (omega arith)) in
    omega (arith, l.2, c.loop-m.invariant.skip, parts_low c.args.number c.least_length-length.result c.args.numbers.now c.args.axes.now 0)

pub overflow_add-skipped : goal.overflow_add-skipped
overflow_add-skipped c =
    let l = left_here c.args.number c.least_length-length.result c.args.numbers.now c.args.axes.now c.loop-m.m (omega arith) (omega arith) (eq-eqb (get_or c.args.numbers.now c.loop-m.m 0) c.args.number (omega arith)) in
    omega (arith, l.2, c.loop-m.invariant.skip, parts_low c.args.number c.least_length-length.result c.args.numbers.now c.args.axes.now 0)
