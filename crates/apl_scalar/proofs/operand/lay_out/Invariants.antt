use Rattle.std.proofs.Common.{◌≡◌, IsTrue, map, take}
use Rattle.apl_scalar.proofs.operand.lay_out.Given as goal

-- as far as the lane holds all numbers so far, they are written
abbrev pub invariant-loop-i : goal.invariant-loop-i
invariant-loop-i g l = IsTrue l.holds → map g.L.Lane.value (take l.i l.out) ≡ map g.S.Lane.value (take l.i l.numbers)
