use Rattle.std.proofs.Common.{◌≡◌, map, drop}
use Rattle.std.specs.Cmp.Lexicographic.{pointwise}
use Rattle.std.specs.Ordering.{int_eq}
use Rattle.apl_arrays.proofs.numbers.are_equal.Given as goal

abbrev pub invariant-loop-i : goal.invariant-loop-i
invariant-loop-i g l =
    let v = g.L.Lane.value in
    let w = g.M.Lane.value in
    pointwise int_eq (map v (drop l.i l.a)) (map w (drop l.i l.b)) ≡ pointwise int_eq (map v l.a) (map w l.b)
