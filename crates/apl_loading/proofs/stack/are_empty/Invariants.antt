use Rattle.std.proofs.Common.{◌≡◌, ◌↔◌, drop, map}
use Rattle.std.specs.Prelude.{is_none}
use Rattle.apl_loading.proofs.stack.are_empty.Given as goal

abbrev pub invariant-loop-i : goal.invariant-loop-i
invariant-loop-i l = (drop l.i l.empty ≡ map is_none (drop l.i l.slots)) ↔ (l.empty ≡ map is_none l.slots)
