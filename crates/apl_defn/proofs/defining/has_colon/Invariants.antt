use Rattle.std.proofs.Common.{◌≡◌, ◌==◌, drop}
use Rattle.std.specs.List.{list_any}
use Rattle.apl_defn.proofs.defining.has_colon.Given as goal

abbrev pub invariant-loop-c : goal.invariant-loop-c
invariant-loop-c l = list_any (λ c. c == 58) (drop l.c-index l.text) ≡ list_any (λ c. c == 58) l.text
