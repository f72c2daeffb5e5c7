use Rattle.std.proofs.Common.{◌↔◌, drop}
use Rattle.apl_saved.specs.Spelled.{Pairwise}
use Rattle.apl_loading.specs.inside.Made.{IsNamedBy}
use Rattle.apl_loading.proofs.locals.are_named.Given as goal

abbrev pub invariant-loop-i : goal.invariant-loop-i
invariant-loop-i l = Pairwise IsNamedBy (drop l.i l.fields) (drop l.i l.names) ↔ Pairwise IsNamedBy l.fields l.names
