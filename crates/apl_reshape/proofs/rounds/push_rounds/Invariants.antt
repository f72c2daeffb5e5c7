use Rattle.std.proofs.Common.{◌≡◌, ◌*◌, ◌++◌, length, map}
use Rattle.std.specs.List.{range_with_len}
use Rattle.apl_reshape.specs.Reshape.{item_round}
use Rattle.apl_reshape.proofs.rounds.push_rounds.Given as goal

-- so many whole rounds
abbrev pub invariant-loop : goal.invariant-loop
invariant-loop g l = (d : g.row.T.Denot) → l.out.items ≡ l.initial.out.items ++ map (item_round l.items d) (range_with_len 0 (l.counter * length l.items))
