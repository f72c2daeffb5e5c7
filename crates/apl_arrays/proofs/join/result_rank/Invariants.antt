use Rattle.std.proofs.Common.{◌≡◌, drop, max}
use Rattle.apl_arrays.specs.Views.{rank_of}
use Rattle.apl_arrays.proofs.join.result_rank.Given as goal

abbrev pub invariant-loop-number : goal.invariant-loop-number
invariant-loop-number l = max l.rank (rank_of (drop l.number-index l.numbers)) ≡ rank_of l.numbers
