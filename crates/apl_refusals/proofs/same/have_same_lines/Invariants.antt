use Rattle.std.proofs.Common.{◌≡◌, ◌<◌, ℕ, []}
use Rattle.std.specs.Prelude.{slice_index_or}
use Rattle.apl_refusals.proofs.same.have_same_lines.Given as goal

-- the lines before are the same
abbrev pub invariant-loop-k : goal.invariant-loop-k
invariant-loop-k l = (j : ℕ) → j < l.k → slice_index_or l.one.lines j [] ≡ slice_index_or l.other.lines j []
