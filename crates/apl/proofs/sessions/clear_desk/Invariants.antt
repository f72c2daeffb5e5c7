use Rattle.std.proofs.Common.{◌≡◌, length}
use Rattle.apl.proofs.sessions.clear_desk.Given as goal

abbrev pub invariant-loop : goal.invariant-loop
invariant-loop l = length l.sessions.items ≡ l.counter
