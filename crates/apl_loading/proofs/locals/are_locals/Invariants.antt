use Rattle.std.proofs.Common.{◌↔◌, drop}
use Rattle.std.specs.List.{AllByRecursion}
use Rattle.apl_saved.specs.Rules.{IsLocal}
use Rattle.apl_loading.proofs.locals.are_locals.Given as goal

abbrev pub invariant-loop-local : goal.invariant-loop-local
invariant-loop-local l = AllByRecursion IsLocal (drop l.local-index l.locals) ↔ AllByRecursion IsLocal l.locals
