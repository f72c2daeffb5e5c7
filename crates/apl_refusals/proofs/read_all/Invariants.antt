use Rattle.std.proofs.Common.{length, ◌≤◌}
use Rattle.apl_refusals.proofs.read_all.Given as goal

-- what is filled is within the buffer
abbrev pub invariant-loop : goal.invariant-loop
invariant-loop g l = l.filled ≤ length l.buffer
