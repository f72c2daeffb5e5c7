use Rattle.std.proofs.Common.{◌≡◌, ◌+◌, ◌-◌, ◌++◌, map, get_or}
use Rattle.std.specs.List.{range_with_len}
use Rattle.apl_arrays.specs.Strides.{step_at}
use Rattle.apl_arrays.proofs.gather.gather_line.Given as goal

abbrev pub invariant-loop-i : goal.invariant-loop-i
invariant-loop-i g l = (d : g.row.T.Denot) →
    l.out.items ++ map (λ k. get_or l.raw (l.at + step_at l.axis k) d) (range_with_len l.i (l.axis.length - l.i)) ≡ l.fn.out.items ++ map (λ k. get_or l.raw (l.at + step_at l.axis k) d) (range_with_len 0 l.axis.length)
