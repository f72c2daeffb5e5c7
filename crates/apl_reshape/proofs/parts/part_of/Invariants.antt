use Rattle.std.proofs.Common.{◌≡◌, ◌++◌, take, drop}
use Rattle.apl_reshape.specs.Take.{part}
use Rattle.apl_reshape.proofs.parts.part_of.Given as goal

-- the first so many axes are cut
abbrev pub invariant-loop-axis : goal.invariant-loop-axis
invariant-loop-axis l = l.view ≡ part (take l.axis l.froms) (take l.axis l.lens ++ drop l.axis l.b.shape) l.b
