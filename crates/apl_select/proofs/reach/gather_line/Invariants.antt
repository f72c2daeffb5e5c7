use Rattle.std.proofs.Common.{◌≡◌, ◌+◌, ◌++◌, map, take, get_or}
use Rattle.apl_select.proofs.reach.gather_line.Given as goal

abbrev pub invariant-loop-place : goal.invariant-loop-place
invariant-loop-place g l = (d : g.row.T.Denot) → l.out.items ≡ l.fn.out.items ++ map (λ k. get_or l.raw (l.first + k) d) (take l.place-index l.places)
