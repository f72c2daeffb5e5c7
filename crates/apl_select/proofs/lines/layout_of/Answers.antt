use Rattle.std.proofs.Common.{◌+◌, ◌≤◌, get_or, arith}
use Rattle.apl_arrays.specs.Index.{bound_of}
use Rattle.apl_arrays.proofs.Places.{size_le_bound}
use Rattle.apl_arrays.proofs.Whole.{bound-drop}
use Rattle.apl_select.proofs.Laying.{bound-take, length_small, near_product}
use Rattle.apl_select.proofs.lines.layout_of.Goals as goal

pub size-requires : goal.size-requires
size-requires c = rw (c.split_at.ensures.front) (bound-take c.args.shape.now c.args.axis 1000000 c.requires.small)

pub size-requires-2 : goal.size-requires-2
size-requires-2 c = rw (c.split_at-2.ensures.back) (bound-drop c.args.shape.now (c.args.axis + 1) 1000000 c.requires.small)

pub returns-clause-near : goal.returns-clause-near
returns-clause-near c =
    let prefix : bound_of c.split_at.result.0.now ≤ 1000000 = rw (c.split_at.ensures.front) (bound-take c.args.shape.now c.args.axis 1000000 c.requires.small) in
    let small : c.size.result ≤ 1000000 = omega (arith, c.size.ensures, size_le_bound c.split_at.result.0.now) in
    near_product c.size.result (get_or c.args.shape.now c.args.axis 0) small (length_small c.args.shape.now c.args.axis 1000000 c.requires.small)
