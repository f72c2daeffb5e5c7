use Rattle.std.proofs.Common.{◌≤◌, drop}
use Rattle.apl_loading.specs.Refusals.{Below, TakesContext, RefusesContext, context_after, nothing_below}
use Rattle.apl_loading.specs.inside.Made.{IsBelow}
use Rattle.apl_loading.proofs.Taken.{HasTaken}
use Rattle.apl_loading.proofs.contexts.read_contexts.Given as goal

abbrev pub invariant-loop-i : goal.invariant-loop-i
invariant-loop-i l = (l.standing ≤ 256) × ((s : Below) × IsBelow l.awaits l.standing s × HasTaken TakesContext RefusesContext context_after nothing_below l.fields s (drop l.i l.fields) l.contexts.items)
