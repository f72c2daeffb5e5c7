use Rattle.std.proofs.Common.{◌≡◌, ℕ, ◌+◌, ◌<◌, get_or}
use Rattle.apl_arrays.specs.Strides.{step_at}
use Rattle.apl_arrays.proofs.gather.write_four.Given as goal

abbrev pub invariant-loop-k : goal.invariant-loop-k
invariant-loop-k g l = record {
  first : (d : g.row.T.Denot) (j : ℕ) → j < l.k → get_or l.first j d ≡ get_or l.raw (l.at + step_at l.axis j) d;
  second : (d : g.row.T.Denot) (j : ℕ) → j < l.k → get_or l.second j d ≡ get_or l.raw (l.at + 1 + step_at l.axis j) d;
  third : (d : g.row.T.Denot) (j : ℕ) → j < l.k → get_or l.third j d ≡ get_or l.raw (l.at + 2 + step_at l.axis j) d;
  fourth : (d : g.row.T.Denot) (j : ℕ) → j < l.k → get_or l.fourth j d ≡ get_or l.raw (l.at + 3 + step_at l.axis j) d;
}
