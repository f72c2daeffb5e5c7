use Rattle.std.proofs.Common.{◌≡◌, ◌++◌, ◌-◌, drop, length, vec_len}
use Rattle.apl_kept.specs.Indicator.{indicator}
use Rattle.apl_kept.proofs.indicator.indicator.Given as goal

abbrev pub invariant-loop-call : goal.invariant-loop-call
invariant-loop-call l = l.calls.items ++ drop (vec_len l.calls) (indicator l.machine.contexts) ≡ indicator l.machine.contexts

abbrev pub decreases-loop-call : goal.decreases-loop-call
decreases-loop-call l = length (indicator l.machine.contexts) - vec_len l.calls
